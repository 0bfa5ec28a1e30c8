-- What a turn at the lock comes to.
use Rattle.std.proofs.Common.{◌≡◌, inr, ℕ, ◌+◌, ◌<◌, ◌≤◌, Bool, true, nat_le, nat_lt, List, [], ◌∷◌, ◌++◌, drop, length, All, refl, sym, ap, ◌∙◌, subst, arith}
use Rattle.std.proofs.lemmas.List.{drop_at}
use Rattle.std.proofs.lemmas.List.Elements.{filter-append, All-head, All-drop, All-same, All-weaker, All-push}
use Rattle.std.proofs.lemmas.Bool.Decides.{nat_tests}
use Rattle.ticket_lock.specs.Calls.{mine_of, IsDrawn, Finds, IsBack, MayLeave}
use Rattle.ticket_lock.specs.Entries.{is_under, entries_under}
use Rattle.ticket_lock.specs.Views.{HasAllNames}
use Rattle.ticket_lock.specs.declared.views.View.{View}
use Rattle.tracer.specs.LiveSeen.{LiveSeen}
use Rattle.tracer.specs.Lives.{IsLive}
use Rattle.shared_mount.specs.LiveMountSeen.{LiveMountSeen, SharedTerms, numbers_of}
use Rattle.shared_mount.specs.MountCallers.{AreOthers, GoesOn, IsIdle, IsToldOf, TakesTurn}
use Rattle.shared_mount.specs.MountEntries.{Deed, EntrySeen, caller_of, done_in, ticket_of}
use Rattle.shared_mount.specs.MountHistories.{IsNext, IsOwing, WereTaken}
use Rattle.shared_mount.specs.private.MountTurns.{IsTurnAfter, TakenIn}

-- ---- what a mounted tracer was mounted with

pub numbers_of-determines : (g k : SharedTerms) → numbers_of g ≡ numbers_of k → g ≡ k
numbers_of-determines g k same =
    let with : ℕ → ℕ → ℕ → ℕ → ℕ → ℕ → ℕ → ℕ → SharedTerms = λ a b c d u v m l. record {
      mount = record { config = record { cpus = a; pages = b; page_bytes = c; history_limit = d }; uid = u; gid = v; mode = m };
      limit = l;
    } in
    let cpus : g.mount.config.cpus ≡ k.mount.config.cpus = cc in
    let pages : g.mount.config.pages ≡ k.mount.config.pages = cc in
    let page_bytes : g.mount.config.page_bytes ≡ k.mount.config.page_bytes = cc in
    let history_limit : g.mount.config.history_limit ≡ k.mount.config.history_limit = cc in
    let uid : g.mount.uid ≡ k.mount.uid = cc in
    let gid : g.mount.gid ≡ k.mount.gid = cc in
    let mode : g.mount.mode ≡ k.mount.mode = cc in
    let limit : g.limit ≡ k.limit = cc in
    ap (λ (n : ℕ). with n g.mount.config.pages g.mount.config.page_bytes g.mount.config.history_limit g.mount.uid g.mount.gid g.mount.mode g.limit) cpus
    ∙ ap (λ (n : ℕ). with k.mount.config.cpus n g.mount.config.page_bytes g.mount.config.history_limit g.mount.uid g.mount.gid g.mount.mode g.limit) pages
    ∙ ap (λ (n : ℕ). with k.mount.config.cpus k.mount.config.pages n g.mount.config.history_limit g.mount.uid g.mount.gid g.mount.mode g.limit) page_bytes
    ∙ ap (λ (n : ℕ). with k.mount.config.cpus k.mount.config.pages k.mount.config.page_bytes n g.mount.uid g.mount.gid g.mount.mode g.limit) history_limit
    ∙ ap (λ (n : ℕ). with k.mount.config.cpus k.mount.config.pages k.mount.config.page_bytes k.mount.config.history_limit n g.mount.gid g.mount.mode g.limit) uid
    ∙ ap (λ (n : ℕ). with k.mount.config.cpus k.mount.config.pages k.mount.config.page_bytes k.mount.config.history_limit k.mount.uid n g.mount.mode g.limit) gid
    ∙ ap (λ (n : ℕ). with k.mount.config.cpus k.mount.config.pages k.mount.config.page_bytes k.mount.config.history_limit k.mount.uid k.mount.gid n g.limit) mode
    ∙ ap (λ (n : ℕ). with k.mount.config.cpus k.mount.config.pages k.mount.config.page_bytes k.mount.config.history_limit k.mount.uid k.mount.gid k.mount.mode n) limit

-- ---- entries

-- an entry under the first name is the caller's own
own_entry : (low end : ℕ) (entry : EntrySeen) → entry.by ≡ low → low < end → entries_under caller_of low end (entry ∷ []) ≡ entry ∷ []
own_entry low end entry by named =
    let above : nat_le low entry.by ≡ true = rw by (grind (arith, nat_tests)) in
    let below : nat_lt entry.by end ≡ true = rw by (grind (arith, nat_tests)) in
    grind (arith, above, below)

-- where all entries are of callers, and none is under all names, there is none
none_of_all : (v : View EntrySeen) (others : List EntrySeen) → HasAllNames v → AreOthers v others → All (λ (e : EntrySeen). e.by < 65536) others
    → others ≡ []
none_of_all v [] names none callers = refl
none_of_all v (e ∷ others) names none callers =
    let caller : e.by < 65536 = All-head (λ (e : EntrySeen). e.by < 65536) e others callers in
    let above : nat_le v.low e.by ≡ true = rw names.0 (grind (arith, nat_tests)) in
    let below : nat_lt e.by v.end ≡ true = rw names.1 (grind (arith, nat_tests)) in
    absurd (grind (arith, none, above, below))

-- entries below a front are below a later one
ahead_of : (front later : ℕ) (entries : List EntrySeen) → front ≤ later → All (λ (e : EntrySeen). e.ticket < front) entries
    → All (λ (e : EntrySeen). e.ticket < later) entries
ahead_of front later entries order =
    All-weaker (λ (e : EntrySeen). e.ticket < front) (λ (e : EntrySeen). e.ticket < later) (λ e below. omega (arith, below, order)) entries

others_are_callers : (seen others found : List EntrySeen) → found ≡ seen ++ others → All (λ (e : EntrySeen). e.by < 65536) found
    → All (λ (e : EntrySeen). e.by < 65536) others
others_are_callers seen others found is all =
    All-same (λ (e : EntrySeen). e.by < 65536) others (drop (length seen) (seen ++ others)) (sym (drop_at seen others (length seen) refl))
    (All-drop (λ (e : EntrySeen). e.by < 65536) (length seen) (seen ++ others) (All-same (λ (e : EntrySeen). e.by < 65536) (seen ++ others) found (sym is) all))

-- ---- turns

module _ (v h w : View EntrySeen) (served : ℕ) (value : LiveMountSeen) (g : SharedTerms) (taken : TakenIn v h served value g) where
  drawn : IsDrawn v h served
  drawn = taken.turn.drawn

  finds : Finds ticket_of caller_of v served h.seen
  finds = taken.turn.finds

  abbrev others : List EntrySeen
  others = finds.seen.0

  found : value.entries ≡ v.seen ++ others
  found = taken.turn.entries_are ∙ finds.seen.1

  terms : value.terms ≡ g
  terms = numbers_of-determines value.terms g (taken.turn.base ∙ sym taken.same)

  goes_on : (left : List EntrySeen) → IsBack h w left → All (λ (e : EntrySeen). e.ticket < served + 1) left → GoesOn v w
  goes_on left back below = record {
    low = back.low ∙ drawn.low;
    end = back.end ∙ drawn.end;
    base = back.base ∙ drawn.base;
    risen = omega (arith, drawn.risen, back.front);
    all_names = λ all. back.front ∙ drawn.all_names all;
    ahead = λ known.
        let P : List EntrySeen → ℕ → Type 0 = λ es front. All (λ (e : EntrySeen). e.ticket < front) es in
        subst (λ (es : List EntrySeen). P es w.front) (sym back.seen) (subst (λ (n : ℕ). P left n) (sym (back.front ∙ drawn.front)) below);
  }

  found_below : All (λ (e : EntrySeen). e.ticket < served + 1) h.seen
  found_below = ahead_of served (served + 1) h.seen (omega arith) finds.below

  pub turn_takes : (may : List EntrySeen → Deed → Type 0) (owes : Bool) (entry : EntrySeen) (left : List EntrySeen) → v.low < v.end
      → entry.ticket ≡ served → entry.by ≡ h.low → left ≡ value.entries ++ entry ∷ [] → IsBack h w left → may value.entries entry.deed
      → IsNext value.terms value.entries entry.deed owes → TakesTurn g v w may owes
  turn_takes may owes entry left named ticket by is back deed next =
      let whole : left ≡ h.seen ++ entry ∷ [] = is ∙ ap (λ (es : List EntrySeen). es ++ entry ∷ []) taken.turn.entries_are in
      let own : entry.by ≡ v.low = by ∙ drawn.low in
      let below : All (λ (e : EntrySeen). e.ticket < served + 1) (h.seen ++ entry ∷ []) =
      All-push (λ (e : EntrySeen). e.ticket < served + 1) h.seen entry found_below (omega (arith, ticket)) in
      record {
        goes_on = goes_on left back (subst (λ (es : List EntrySeen). All (λ (e : EntrySeen). e.ticket < served + 1) es) (sym whole) below);
        others = others;
        entry = entry;
        seen = back.seen ∙ is ∙ ap (λ (es : List EntrySeen). es ++ entry ∷ []) found;
        by_others = finds.seen.2;
        alone = λ names. none_of_all v others names finds.seen.2 (others_are_callers v.seen others h.seen finds.seen.1 finds.callers);
        mine =
            let at : mine_of caller_of w ≡ entries_under caller_of v.low v.end (h.seen ++ entry ∷ []) =
            rw (back.low ∙ drawn.low, back.end ∙ drawn.end, back.seen, whole) refl in
            at ∙ filter-append (is_under caller_of v.low v.end) h.seen (entry ∷ [])
            ∙ ap (λ (es : List EntrySeen). es ++ entries_under caller_of v.low v.end (entry ∷ [])) finds.mine
            ∙ ap (λ (es : List EntrySeen). mine_of caller_of v ++ es) (own_entry v.low v.end entry own named);
        by = own;
        ticket = back.front ∙ drawn.front ∙ ap (λ (n : ℕ). n + 1) (sym ticket);
        deed = subst (λ (es : List EntrySeen). may es entry.deed) found deed;
        next = subst (λ (es : List EntrySeen). IsNext g es entry.deed owes) found
            (subst (λ (k : SharedTerms). IsNext k value.entries entry.deed owes) terms next);
      }

  pub turn_idle : IsBack h w value.entries → WereTaken value.terms value.entries → IsIdle g v w
  turn_idle back were = record {
    goes_on = goes_on value.entries back
        (subst (λ (es : List EntrySeen). All (λ (e : EntrySeen). e.ticket < served + 1) es) (sym taken.turn.entries_are) found_below);
    others = others;
    seen = back.seen ∙ found;
    by_others = finds.seen.2;
    alone = λ names. none_of_all v others names finds.seen.2 (others_are_callers v.seen others h.seen finds.seen.1 finds.callers);
    taken = subst (λ (es : List EntrySeen). WereTaken g es) (sym back.seen)
        (subst (λ (k : SharedTerms). WereTaken k value.entries) terms were);
  }

  pub turn_owing : (owes : Bool) → IsBack h w value.entries → IsOwing value.terms value.entries owes → IsOwing g w.seen owes
  turn_owing owes back owing = subst (λ (es : List EntrySeen). IsOwing g es owes) (sym back.seen)
      (subst (λ (k : SharedTerms). IsOwing k value.entries owes) terms owing)

  pub turn_told : {A : Type 0} (tells : LiveSeen → A → Type 0) (answer : A) (tracer : LiveSeen) (after : LiveMountSeen) (left : List EntrySeen)
      → IsBack h w left → left ≡ after.entries → after.terms ≡ value.terms → tracer.config ≡ after.terms.mount.config
      → IsLive tracer.config (done_in after.entries) tracer → tells tracer answer → IsToldOf g tells w.seen answer
  turn_told tells answer tracer after left back is same config lives told = record {
    tracer = tracer;
    config = config ∙ ap (λ (k : SharedTerms). k.mount.config) (same ∙ terms);
    lives = subst (λ (es : List EntrySeen). IsLive tracer.config (done_in es) tracer) (sym (back.seen ∙ is)) lives;
    told = told;
  }

-- ---- what a turn may leave

pub may_leave : (v h : View EntrySeen) (served : ℕ) (value after : LiveMountSeen) (entry : EntrySeen) → IsTurnAfter v h served value
    → entry.ticket ≡ served → entry.by ≡ h.low → after.entries ≡ value.entries ++ entry ∷ [] → MayLeave ticket_of caller_of h served after.entries
may_leave v h served value after entry turn ticket by left =
    inr (entry, left ∙ ap (λ (es : List EntrySeen). es ++ entry ∷ []) turn.entries_are, ticket, by)

pub base_left : (v h : View EntrySeen) (served : ℕ) (value after : LiveMountSeen) → IsTurnAfter v h served value → after.terms ≡ value.terms
    → numbers_of after.terms ≡ h.base
base_left v h served value after turn same = ap numbers_of same ∙ turn.base ∙ sym turn.drawn.base
