-- Texts that are made of copies.
use Rattle.std.specs.Prelude.{◌≡◌}
use Rattle.trace_command.specs.declared.command.Reply.TheVariants.{Text}
use Rattle.trace_instance.specs.LateReplies.{reply_of}
use Rattle.mount_replies.specs.declared.shown.CopiedText.{CopiedText}
use Rattle.mount_replies.specs.declared.shown.ShownText.{ShownText}

-- the text is the one that the copy means
pub record IsMadeOf (copied : CopiedText) (shown : ShownText) : Type 0 where
  pub owner : shown.owner ≡ copied.owner
  pub file : shown.file ≡ copied.file
  pub after : shown.after ≡ copied.after
  pub text : reply_of copied.late ≡ Text shown.text
