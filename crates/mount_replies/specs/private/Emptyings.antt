-- What opening a file to be emptied asks, as the function that looks for it gives it.
use Rattle.std.specs.Prelude.{◌≡◌, Option, Some, None}
use Rattle.mount_replies.specs.Served.{AsksNone, AsksToWrite, Emptying}
use Rattle.mount_replies.specs.declared.opening.Emptying.{Emptying as Found}

abbrev pub Empties : Emptying → Option Found → Type 0
Empties asked None = asked ≡ AsksNone
Empties asked (Some found) = asked ≡ AsksToWrite found.file found.text.now
