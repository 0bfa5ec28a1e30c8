use Rattle.std.proofs.Common.{◌≡◌, refl}
use Rattle.std.proofs.lemmas.List.Elements.{All-replicate}
use Rattle.mount_replies.specs.declared.wanted_events.Wanted.{Wanted}
use Rattle.mount_replies.specs.declared.wanted_events.Wanted.TheVariants.{Unknown}
use Rattle.mount_replies.proofs.wanted_events.WantedEvents.new.Goals as goal

pub returns : goal.returns
returns c = All-replicate (λ (wanted : Wanted). wanted ≡ Unknown) 65 Unknown refl
