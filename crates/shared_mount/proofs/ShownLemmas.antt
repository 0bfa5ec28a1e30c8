-- What a request comes to that is served of a text which was made beside the turns, after a history.
use Rattle.std.proofs.Common.{◌≡◌, ℕ, Bool, true, false, List, [], ◌∷◌, ◌++◌, Option, IfSome, refl, sym, ap, subst, ◌∙◌, append-nil, append_assoc}
use Rattle.ticket_lock.specs.Calls.{IsBack}
use Rattle.ticket_lock.specs.declared.views.View.{View}
use Rattle.trace_command.specs.Requests.{Request}
use Rattle.mount_replies.specs.Calls.{IsTurned, Shows}
use Rattle.mount_replies.specs.Mounted.{IsMounted, MountSeen, service_of, terms_of}
use Rattle.mount_replies.specs.Services.{Terms}
use Rattle.mount_replies.specs.ShownTexts.{IsCopied, IsServedOf, WasShown}
use Rattle.mount_replies.specs.declared.shown.CopiedText.{CopiedText}
use Rattle.mount_replies.specs.declared.shown.ShownText.{ShownText}
use Rattle.mount_replies.proofs.ShownTurns.{shown-rests}
use Rattle.shared_mount.specs.LiveMountSeen.{LiveMountSeen, SharedTerms}
use Rattle.shared_mount.specs.MountCallers.{Asks, terms_of as shared_terms}
use Rattle.shared_mount.specs.MountEntries.{Deed, DidExchange, DidShow, EntrySeen, commands_of, done_in}
use Rattle.shared_mount.specs.MountHistories.{IsNext}
use Rattle.shared_mount.specs.ShownMounts.{IsShownIn, ServesOf, shows}
use Rattle.shared_mount.specs.private.MountTurns.{TakenIn}
use Rattle.shared_mount.specs.declared.served.Served.{Served}
use Rattle.shared_mount.specs.declared.served.Served.TheVariants.{Done, NotNow}
use Rattle.shared_mount.specs.declared.shared.SharedMount.{SharedMount}
use Rattle.shared_mount.proofs.CallerLemmas.{asks_idle, asks_turned}
use Rattle.shared_mount.proofs.MountSteps.{LeavesExchange, Stands, Steps, steps-next, steps-stand, within}
use Rattle.shared_mount.proofs.TurnLemmas.{numbers_of-determines}

-- ---- what was shown earlier

done_in-append : (earlier later : List EntrySeen) → done_in (earlier ++ later) ≡ done_in later ++ done_in earlier
done_in-append [] later = sym (append-nil (done_in later))
done_in-append (entry ∷ earlier) later =
    ap (λ (past : List Request). past ++ commands_of entry.deed) (done_in-append earlier later)
    ∙ append_assoc (done_in later) (done_in earlier) (commands_of entry.deed)

pub was-shown : (g : SharedTerms) (entries : List EntrySeen) (shown : ShownText) → IsShownIn g entries shown → WasShown g.mount (done_in entries) shown
was-shown g entries shown is = record {
  later = done_in is.later;
  earlier = done_in is.earlier;
  is = ap done_in is.is ∙ done_in-append is.earlier is.later;
  was = is.text;
}

-- and it was shown when others have had their turns
pub shown-later : (g : SharedTerms) (seen more entries : List EntrySeen) (shown : ShownText) → entries ≡ seen ++ more → IsShownIn g seen shown
    → IsShownIn g entries shown
shown-later g seen more entries shown same is = record {
  earlier = is.earlier;
  later = is.later ++ more;
  is = same ∙ ap (λ (es : List EntrySeen). es ++ more) is.is ∙ append_assoc is.earlier is.later more;
  text = is.text;
}

pub shown-found : (v h : View EntrySeen) (served : ℕ) (value : LiveMountSeen) (g : SharedTerms) (shown : ShownText) → TakenIn v h served value g
    → IsShownIn g v.seen shown → IsShownIn value.terms value.entries shown
shown-found v h served value g shown taken is =
    let others : List EntrySeen = taken.turn.finds.seen.0 in
    let terms : value.terms ≡ g = numbers_of-determines value.terms g (taken.turn.base ∙ sym taken.same) in
    subst (λ (k : SharedTerms). IsShownIn k value.entries shown) (sym terms)
    (shown-later g v.seen others value.entries shown (taken.turn.entries_are ∙ taken.turn.finds.seen.1) is)

-- what is copied is of what the caller sees then
pub copied-seen : (v h w : View EntrySeen) (served : ℕ) (value : LiveMountSeen) (g : SharedTerms) (copied : Option CopiedText) → TakenIn v h served value g
    → IsBack h w value.entries → IfSome copied (IsCopied value.terms.mount (done_in value.entries)) → IfSome copied (IsCopied g.mount (done_in w.seen))
copied-seen v h w served value g copied taken back is =
    let terms : value.terms ≡ g = numbers_of-determines value.terms g (taken.turn.base ∙ sym taken.same) in
    subst (λ (es : List EntrySeen). IfSome copied (IsCopied g.mount (done_in es))) (sym back.seen)
    (subst (λ (k : SharedTerms). IfSome copied (IsCopied k.mount (done_in value.entries))) terms is)

-- ---- a turn

pub show-steps : (limit : ℕ) (entries : List EntrySeen) (old new : MountSeen) (shown : ShownText) (asked bytes : List ℕ)
    → IsServedOf true (done_in entries) old new shown asked bytes → Steps limit entries old new (DidShow shown asked bytes)
show-steps limit entries old new shown asked bytes is =
    let past = done_in entries in
    let g : Terms = terms_of old in
    let served = is.served in
    let same : is.after ≡ past =
    (shown-rests g (service_of past old) served.request.unique shown served.request.operation served.reply (service_of is.after new) served.does).past in
    record {
      terms = is.terms;
      mounted = subst (λ (done : List Request). IsMounted done new) same is.mounted;
      leads = record {
        turned = subst (λ (done : List Request). IsTurned g (service_of past old) (Shows shown asked bytes) (service_of done new)) same served;
        past = refl;
        promised = tt;
      };
    }

-- the entry that it leaves
abbrev shown-entry : ℕ → ℕ → ShownText → List ℕ → List ℕ → EntrySeen
shown-entry ticket by shown asked bytes = record { ticket = ticket; by = by; deed = DidShow shown asked bytes }

leaves-it : (entries left : List EntrySeen) (ticket by : ℕ) (text shown : ShownText) (asked written bytes : List ℕ) → text ≡ shown → written ≡ bytes
    → left ≡ entries ++ shown-entry ticket by text asked written ∷ [] → left ≡ entries ++ shown-entry ticket by shown asked bytes ∷ []
leaves-it entries left ticket by text shown asked written bytes text_is written_is left_is =
    left_is ∙ ap (λ (x : ShownText). entries ++ shown-entry ticket by x asked written ∷ []) text_is
    ∙ ap (λ (x : List ℕ). entries ++ shown-entry ticket by shown asked x ∷ []) written_is

pub show-stands : (limit : ℕ) (entries : List EntrySeen) (old new : MountSeen) (text shown : ShownText) (asked written bytes : List ℕ) (ticket by : ℕ)
    (left : List EntrySeen) → Stands limit entries old → IsServedOf true (done_in entries) old new shown asked bytes → text ≡ shown → written ≡ bytes
    → left ≡ entries ++ record { ticket = ticket; by = by; deed = DidShow text asked written } ∷ [] → Stands limit left new
show-stands limit entries old new text shown asked written bytes ticket by left stands is text_is written_is left_is =
    subst (λ (es : List EntrySeen). Stands limit es new)
    (sym (leaves-it entries left ticket by text shown asked written bytes text_is written_is left_is))
    (steps-stand limit entries old new (shown-entry ticket by shown asked bytes) stands (show-steps limit entries old new shown asked bytes is))

-- what a request comes to for which there is this text
abbrev pub LeavesOf : SharedTerms → List EntrySeen → Bool → ShownText → List ℕ → List ℕ → ℕ → ℕ → List EntrySeen → Type 0
LeavesOf g entries owes shown asked bytes ticket by left =
    (of_text : Bool) × (deed : Deed) × shows of_text shown asked bytes entries deed
    × (left ≡ entries ++ record { ticket = ticket; by = by; deed = deed } ∷ []) × IsNext g entries deed owes

pub show-left : (limit : ℕ) (entries : List EntrySeen) (old new : MountSeen) (text shown : ShownText) (asked written bytes : List ℕ) (ticket by : ℕ)
    (left : List EntrySeen) → Stands limit entries old → IsServedOf true (done_in entries) old new shown asked bytes → text ≡ shown → written ≡ bytes
    → left ≡ entries ++ record { ticket = ticket; by = by; deed = DidShow text asked written } ∷ []
    → LeavesOf (within limit (terms_of old)) entries new.owes shown asked bytes ticket by left
show-left limit entries old new text shown asked written bytes ticket by left stands is text_is written_is left_is = (
  true,
  DidShow shown asked bytes,
  refl,
  leaves-it entries left ticket by text shown asked written bytes text_is written_is left_is,
  steps-next limit entries old new (DidShow shown asked bytes) stands (show-steps limit entries old new shown asked bytes is),
)

pub exchange-left-of : (limit : ℕ) (entries : List EntrySeen) (old new : MountSeen) (shown : ShownText) (asked bytes : List ℕ) (ticket by : ℕ)
    (left : List EntrySeen) → LeavesExchange limit entries old new asked bytes ticket by left
    → LeavesOf (within limit (terms_of old)) entries new.owes shown asked bytes ticket by left
exchange-left-of limit entries old new shown asked bytes ticket by left (commands, left_is, next) =
    (false, DidExchange asked bytes commands, (commands, refl), left_is, next)

-- ---- callers

pub asks_shown : (shared : SharedMount) (shown : ShownText) (asked bytes : List ℕ) (v w : View EntrySeen) (served : Served) → Asks shared v
    → ServesOf (shared_terms shared) shown asked bytes v w served → Asks shared w
asks_shown shared shown asked bytes v w (Done owes) asks (of_text, takes) = asks_turned shared v w (shows of_text shown asked bytes) owes asks takes
asks_shown shared shown asked bytes v w NotNow asks is = asks_idle shared v w asks is.0
