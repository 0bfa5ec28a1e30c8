-- Requests of a shared mount that are served of a text which was made beside the turns: what callers know of it.
use Rattle.std.specs.Prelude.{◌≡◌, ℕ, Bool, true, false, List, [], ◌++◌}
use Rattle.ticket_lock.specs.declared.views.View.{View}
use Rattle.mount_replies.specs.ShownTexts.{IsText}
use Rattle.mount_replies.specs.declared.shown.ShownText.{ShownText}
use Rattle.shared_mount.specs.LiveMountSeen.{SharedTerms}
use Rattle.shared_mount.specs.MountCallers.{IsIdle, TakesTurn, exchanges}
use Rattle.shared_mount.specs.MountEntries.{Deed, DidShow, EntrySeen, done_in}
use Rattle.shared_mount.specs.MountHistories.{IsOwing}
use Rattle.shared_mount.specs.declared.served.Served.{Served}
use Rattle.shared_mount.specs.declared.served.Served.TheVariants.{Done, NotNow}

-- a file showed this long text after some of the turns that were seen
pub record IsShownIn (g : SharedTerms) (seen : List EntrySeen) (shown : ShownText) : Type 0 where
  pub earlier : List EntrySeen
  pub later : List EntrySeen
  pub is : seen ≡ earlier ++ later
  pub text : IsText g.mount (done_in earlier) shown.owner shown.file shown.after shown.text

-- These bytes were read, and those written, of the text (`of_text`) or as ever.
abbrev pub shows : Bool → ShownText → List ℕ → List ℕ → List EntrySeen → Deed → Type 0
shows true shown asked bytes found deed = deed ≡ DidShow shown asked bytes
shows false shown asked bytes found deed = exchanges asked bytes found deed

-- What a turn came to that serves a request, for which there was this text. It is not the time where something is owed.
abbrev pub ServesOf : SharedTerms → ShownText → List ℕ → List ℕ → View EntrySeen → View EntrySeen → Served → Type 0
ServesOf g shown asked bytes v w (Done owes) = (of_text : Bool) × TakesTurn g v w (shows of_text shown asked bytes) owes
ServesOf g shown asked bytes v w NotNow = IsIdle g v w × IsOwing g w.seen true × (bytes ≡ [])
