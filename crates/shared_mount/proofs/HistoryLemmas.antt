-- Histories with one more turn.
use Rattle.std.proofs.Common.{◌≡◌, Bool, List, [], ◌∷◌, ◌++◌, refl, sym, ap, ◌∙◌, subst, append-nil, append_assoc}
use Rattle.trace_command.specs.Requests.{Request}
use Rattle.mount_replies.specs.Calls.{TakesTurns}
use Rattle.mount_replies.specs.PastLaws.{just_mounted}
use Rattle.mount_replies.specs.Services.{Service}
use Rattle.shared_mount.specs.LiveMountSeen.{SharedTerms}
use Rattle.shared_mount.specs.MountEntries.{EntrySeen, commands_of, done_in}
use Rattle.shared_mount.specs.MountHistories.{AreLed, HaveLed, HistoriesAreTurns, IsNext, Leads, WereTaken, turns_of}

pub done_in-push : (entries : List EntrySeen) (entry : EntrySeen) → done_in (entries ++ entry ∷ []) ≡ commands_of entry.deed ++ done_in entries
done_in-push [] entry = sym (append-nil (commands_of entry.deed))
done_in-push (first ∷ entries) entry =
    ap (λ (past : List Request). past ++ commands_of first.deed) (done_in-push entries entry)
    ∙ append_assoc (commands_of entry.deed) (done_in entries) (commands_of first.deed)

led-push : (g : SharedTerms) (before : Service) (entries : List EntrySeen) (mid : Service) (entry : EntrySeen) (after : Service) → AreLed g before entries mid
    → Leads g mid entry.deed after → AreLed g before (entries ++ entry ∷ []) after
led-push g before [] mid entry after led leads = (after, subst (λ (s : Service). Leads g s entry.deed after) led leads, refl)
led-push g before (first ∷ entries) mid entry after led leads = (led.0, led.1, led-push g led.0 entries mid entry after led.2 leads)

pub have-led-push : (g : SharedTerms) (entries : List EntrySeen) (mid : Service) (entry : EntrySeen) (after : Service) → HaveLed g entries mid
    → Leads g mid entry.deed after → HaveLed g (entries ++ entry ∷ []) after
have-led-push g entries mid entry after have leads = record {
  led = led-push g just_mounted entries mid entry after have.led leads;
  past = leads.past ∙ ap (λ (past : List Request). commands_of entry.deed ++ past) have.past ∙ sym (done_in-push entries entry);
}

pub none-led : (g : SharedTerms) → HaveLed g [] just_mounted
none-led g = record { led = refl; past = refl }

pub next-taken : (g : SharedTerms) (found : List EntrySeen) (entry : EntrySeen) (owes : Bool) → IsNext g found entry.deed owes → WereTaken g (found ++ entry ∷ [])
next-taken g found entry owes next = record { after = next.after; led = have-led-push g found next.before entry next.after next.led next.leads }

led-turns : (g : SharedTerms) (before : Service) (entries : List EntrySeen) (after : Service) → AreLed g before entries after
    → TakesTurns g.mount before (turns_of g.limit entries) after
led-turns g before [] after led = led
led-turns g before (entry ∷ later) after led = (led.0, led.1.turned, led-turns g led.0 later after led.2)

pub histories_are_turns : HistoriesAreTurns
histories_are_turns g entries after have = led-turns g just_mounted entries after have.led
