-- Callers after turns, after splits and after they met.
use Rattle.std.proofs.Common.{◌≡◌, ℕ, ◌<◌, Bool, true, false, nat_lt, List, [], ◌++◌, length, All, AllPairs, refl, sym, ap, ◌∙◌, subst}
use Rattle.ticket_lock.specs.Calls.{AreHalves, HasLooked, IsMet, IsRoot, IsWorn}
use Rattle.ticket_lock.specs.Entries.{longer_of}
use Rattle.ticket_lock.specs.declared.views.View.{View}
use Rattle.mount_replies.specs.PastLaws.{just_mounted}
use Rattle.shared_mount.specs.LiveMountSeen.{LiveMountSeen, numbers_of}
use Rattle.shared_mount.specs.MountCallers.{Asks, HasFailed, caller_in, caller_view, IsIdle, Serves, TakesTurn, exchanges, terms_of}
use Rattle.shared_mount.specs.MountEntries.{Deed, EntrySeen, caller_of, ticket_of}
use Rattle.shared_mount.specs.MountHistories.{IsOneHistory, WereTaken}
use Rattle.shared_mount.specs.declared.served.Served.{Served}
use Rattle.shared_mount.specs.declared.served.Served.TheVariants.{Done, NotNow}
use Rattle.shared_mount.specs.declared.served.NoTurn.{NoTurn}
use Rattle.shared_mount.specs.declared.served.NoTurn.TheVariants.{Busy, Worn}
use Rattle.shared_mount.specs.declared.shared.SharedMount.{SharedMount}
use Rattle.shared_mount.proofs.HistoryLemmas.{next-taken, none-led}
use Rattle.shared_mount.proofs.TurnLemmas.{numbers_of-determines}

-- nothing was done
pub asks_first : (shared : SharedMount) (v : View EntrySeen) → IsRoot [] (numbers_of (terms_of shared)) 0 v → Asks shared v
asks_first shared v root = record {
  base = root.base;
  taken = subst (λ (es : List EntrySeen). WereTaken (terms_of shared) es) (sym root.seen)
      (record { after = just_mounted; led = none-led (terms_of shared) });
}

-- after a turn
pub asks_turned : (shared : SharedMount) (v w : View EntrySeen) (may : List EntrySeen → Deed → Type 0) (owes : Bool) → Asks shared v
    → TakesTurn (terms_of shared) v w may owes → Asks shared w
asks_turned shared v w may owes asks takes = record {
  base = takes.goes_on.base ∙ asks.base;
  taken = subst (λ (es : List EntrySeen). WereTaken (terms_of shared) es) (sym takes.seen)
      (next-taken (terms_of shared) (v.seen ++ takes.others) takes.entry owes takes.next);
}

pub asks_idle : (shared : SharedMount) (v w : View EntrySeen) → Asks shared v → IsIdle (terms_of shared) v w → Asks shared w
asks_idle shared v w asks idle = record { base = idle.goes_on.base ∙ asks.base; taken = idle.taken }

-- where nothing was seen
pub asks_same : (shared : SharedMount) (v w : View EntrySeen) → w.base ≡ v.base → w.seen ≡ v.seen → Asks shared v → Asks shared w
asks_same shared v w base seen asks = record {
  base = base ∙ asks.base;
  taken = subst (λ (es : List EntrySeen). WereTaken (terms_of shared) es) (sym seen) asks.taken;
}

pub asks_looked : (shared : SharedMount) (v w : View EntrySeen) → HasLooked v w → Asks shared v → Asks shared w
asks_looked shared v w looked asks =
    asks_same shared v w (ap (λ (x : View EntrySeen). x.base) looked.same) (ap (λ (x : View EntrySeen). x.seen) looked.same) asks

pub asks_worn : (shared : SharedMount) (v w : View EntrySeen) → IsWorn v w → Asks shared v → Asks shared w
asks_worn shared v w worn asks =
    asks_same shared v w (ap (λ (x : View EntrySeen). x.base) worn.same) (ap (λ (x : View EntrySeen). x.seen) worn.same) asks

-- after a turn that serves
pub asks_served : (shared : SharedMount) (asked bytes : List ℕ) (owed : Bool) (v w : View EntrySeen) (served : Served) → Asks shared v
    → Serves (terms_of shared) asked bytes owed v w served → Asks shared w
asks_served shared asked bytes owed v w (Done owes) asks takes = asks_turned shared v w (exchanges asked bytes) owes asks takes
asks_served shared asked bytes owed v w NotNow asks is = asks_idle shared v w asks is.0

-- after a try that had no turn
pub asks_failed : (shared : SharedMount) (v : View EntrySeen) (no : NoTurn) → HasFailed v no → Asks shared v → Asks shared (caller_view (caller_in no))
asks_failed shared v (Busy caller) is asks = asks_looked shared v (caller_view caller) is.0 asks
asks_failed shared v (Worn caller) is asks = asks_worn shared v (caller_view caller) is asks

-- after a split, and after two met
pub asks_halves : (shared : SharedMount) (v a b : View EntrySeen) → AreHalves v a b → Asks shared v → Asks shared a × Asks shared b
asks_halves shared v a b halves asks =
    (asks_same shared v a halves.base.0 halves.seen.0 asks, asks_same shared v b halves.base.1 halves.seen.1 asks)

pub asks_met : (shared : SharedMount) (x y m : View EntrySeen) → IsMet ticket_of caller_of x y m → Asks shared x → Asks shared y → Asks shared m
asks_met shared x y m met first second = record {
  base = met.base ∙ first.base;
  taken = subst (λ (es : List EntrySeen). WereTaken (terms_of shared) es) (sym met.seen) (longer (nat_lt (length x.seen) (length y.seen)) refl);
}
  where
    longer : (b : Bool) → nat_lt (length x.seen) (length y.seen) ≡ b → WereTaken (terms_of shared) (longer_of x.seen y.seen)
    longer true is = rw is second.taken
    longer false is = rw is first.taken

-- when all met
pub one_history : (shared : SharedMount) (v : View EntrySeen) (entries : List EntrySeen) → Asks shared v → entries ≡ v.seen
    → AllPairs (λ (one other : EntrySeen). one.ticket < other.ticket) entries → All (λ (e : EntrySeen). e.by < 65536) entries
    → IsOneHistory (terms_of shared) entries
one_history shared v entries asks is rising callers = record {
  taken = subst (λ (es : List EntrySeen). WereTaken (terms_of shared) es) (sym is) asks.taken;
  rising = rising;
  callers = callers;
}

pub same_terms : (shared : SharedMount) (v : View EntrySeen) (closed : LiveMountSeen) → Asks shared v → numbers_of closed.terms ≡ v.base
    → closed.terms ≡ terms_of shared
same_terms shared v closed asks base = numbers_of-determines closed.terms (terms_of shared) (base ∙ asks.base)
