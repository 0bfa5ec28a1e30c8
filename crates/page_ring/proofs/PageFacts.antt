-- What the pages of a ring keep and lose where the tail moves on.
use Rattle.std.proofs.Common.{◌≡◌, ℕ, ◌+◌, ◌*◌, ◌<◌, ◌≤◌, nat_lt, leb, eqb, Bool, true, false, not, List, [], ◌∷◌, ◌++◌, length, map, filter, flat_map, sum_by, Option, Some, None, refl, sym, ap, ◌∙◌, inl, inr, arith, length-append}
use Rattle.std.specs.List.{AllByRecursion}
use Rattle.std.proofs.lemmas.Bool.{le-leb, lt-leb, lt-ltb, ne_eqb, cases_Bool, eq-eqb, and_right, not_from_true, not_from_false}
use Rattle.std.proofs.lemmas.Bool.Decides.{leb_tells}
use Rattle.std.proofs.lemmas.List.{append-nil, length-map}
use Rattle.std.proofs.lemmas.List.Elements.{filter-append}
use Rattle.std.proofs.lemmas.List.Sums.{sum_by-cons}
use Rattle.std.proofs.lemmas.List.Concat.{flat_map-append}
use Rattle.page_ring.specs.StoredPage.{Stored, StoredPage}
use Rattle.page_ring.specs.Cut.{Accepted}
use Rattle.page_ring.specs.Account.{is_overrun}
use Rattle.page_ring.specs.Pages.{on_page, stored, bytes_on, IsCircle, head_is_in_the_way, overrun_head, cleared}
use Rattle.page_ring.specs.Sound.{IsRising, IsStorable, page_after}

-- a filter that keeps all, and one that keeps none
pub filter_all : {X : Type 0} (p : X → Bool) (xs : List X) → AllByRecursion (λ x. p x ≡ true) xs → filter p xs ≡ xs
filter_all p [] h = refl
filter_all p (x ∷ xs) h = rw (h.0, filter_all p xs h.1)

pub filter_none : {X : Type 0} (p : X → Bool) (xs : List X) → AllByRecursion (λ x. p x ≡ false) xs → filter p xs ≡ []
filter_none p [] h = refl
filter_none p (x ∷ xs) h = rw (h.0, filter_none p xs h.1)

pub all_append : {X : Type 0} (P : X → Type 0) (xs ys : List X) → AllByRecursion P xs → AllByRecursion P ys → AllByRecursion P (xs ++ ys)
all_append P [] ys g h = h
all_append P (x ∷ xs) ys g h = (g.0, all_append P xs ys g.1 h)

pub all_weaker : {X : Type 0} (P Q : X → Type 0) → ((x : X) → P x → Q x) → (xs : List X) → AllByRecursion P xs → AllByRecursion Q xs
all_weaker P Q f [] h = tt
all_weaker P Q f (x ∷ xs) h = (f x h.0, all_weaker P Q f xs h.1)

-- what holds of each record on a page holds of the page's records
pub all_stored : (P : Accepted → Type 0) (page : ℕ) → ((r : Stored) → P (on_page page r)) → (rs : List Stored) → AllByRecursion P (map (on_page page) rs)
all_stored P page f [] = tt
all_stored P page f (r ∷ rs) = (f r, all_stored P page f rs)

-- no record of these is overrun by one on page n
abbrev pub AreLeft : ℕ → Option ℕ → ℕ → List Accepted → Type 0
AreLeft pages reader n xs = AllByRecursion (λ r. is_overrun pages reader n r ≡ false) xs

abbrev pub AreGone : ℕ → Option ℕ → ℕ → List Accepted → Type 0
AreGone pages reader n xs = AllByRecursion (λ r. is_overrun pages reader n r ≡ true) xs

pub near_left : (pages : ℕ) (reader : Option ℕ) (n page : ℕ) (rs : List Stored) → n < page + pages → AreLeft pages reader n (map (on_page page) rs)
near_left pages reader n page rs h =
    all_stored (λ r. is_overrun pages reader n r ≡ false) page (λ r. rw (lt-leb (page + pages) n h)) rs

pub reader_left : (pages n page : ℕ) (rs : List Stored) → AreLeft pages (Some page) n (map (on_page page) rs)
reader_left pages n page rs =
    all_stored (λ r. is_overrun pages (Some page) n r ≡ false) page (λ r. and_right (leb (page + pages) n) (not (eqb page page)) (ap not (eq-eqb page page refl))) rs

pub far_gone : (pages : ℕ) (reader : Option ℕ) (n page : ℕ) (rs : List Stored) → page + pages ≤ n → page_after reader ≤ page → AreGone pages reader n (map (on_page page) rs)
far_gone pages None n page rs h k =
    all_stored (λ r. is_overrun pages None n r ≡ true) page (λ r. rw (le-leb (page + pages) n h)) rs
far_gone pages (Some reader) n page rs h k =
    all_stored (λ r. is_overrun pages (Some reader) n r ≡ true) page (λ r. rw (le-leb (page + pages) n h, ne_eqb reader page (λ e. absurd (omega arith)))) rs

-- the circle's pages are all near the tail
pub circle_left_at_tail : (pages tail low : ℕ) (reader : Option ℕ) (ps : List StoredPage) → IsCircle pages tail low ps → AreLeft pages reader tail (flat_map stored ps)
circle_left_at_tail pages tail low reader [] h = tt
circle_left_at_tail pages tail low reader (p ∷ ps) h =
    all_append _ (stored p) (flat_map stored ps) (near_left pages reader tail p.number p.records h.2) (circle_left_at_tail pages tail (p.number + 1) reader ps h.5)

-- so they are near the next page, but for the head page
pub circle_left_at_next : (pages tail low : ℕ) (reader : Option ℕ) (ps : List StoredPage) → IsCircle pages tail low ps → tail + 1 < low + pages → AreLeft pages reader (tail + 1) (flat_map stored ps)
circle_left_at_next pages tail low reader [] h k = tt
circle_left_at_next pages tail low reader (p ∷ ps) h k =
    let l : low ≤ p.number = h.0 in
    all_append _ (stored p) (flat_map stored ps) (near_left pages reader (tail + 1) p.number p.records (omega arith)) (circle_left_at_next pages tail (p.number + 1) reader ps h.5 (omega arith))

pub circle_lower : (pages tail low low' : ℕ) (ps : List StoredPage) → low ≤ low' → IsCircle pages tail low' ps → IsCircle pages tail low ps
circle_lower pages tail low low' [] l h = tt
circle_lower pages tail low low' (p ∷ ps) l h = let k : low' ≤ p.number = h.0 in (omega arith, h.1, h.2, h.3, h.4, h.5)

-- the tail moves on, and its old page joins the circle
pub circle_moved : (pages tail low : ℕ) (ps : List StoredPage) (old : StoredPage) → 2 ≤ pages → low ≤ tail → IsCircle pages tail low ps → ((0 < length ps) → tail + 1 < low + pages) → old.number ≡ tail → old.filled ≡ bytes_on old → 0 < length old.records → IsCircle pages (tail + 1) low (ps ++ old ∷ [])
circle_moved pages tail low [] old two l h k n f e =
    (omega arith, omega arith, omega arith, f, e, tt)
circle_moved pages tail low (p ∷ ps) old two l h k n f e =
    let a : low ≤ p.number = h.0 in
    let b : p.number < tail = h.1 in
    let near : tail + 1 < low + pages = k (omega arith) in
    (a, omega arith, omega arith, h.3, h.4, circle_moved pages tail (p.number + 1) ps old two (omega arith) h.5 (λ _. omega arith) n f e)

-- the head page goes if it is in the way, and the others stay
pub circle_split : (pages tail : ℕ) (reader : Option ℕ) (ps : List StoredPage) → IsCircle pages tail (page_after reader) ps → AreGone pages reader (tail + 1) (flat_map stored (overrun_head pages tail ps)) × AreLeft pages reader (tail + 1) (flat_map stored (cleared pages tail ps)) × (ps ≡ overrun_head pages tail ps ++ cleared pages tail ps)
circle_split pages tail reader [] h = (tt, tt, refl)
circle_split pages tail reader (head ∷ rest) h =
    let low : page_after reader ≤ head.number = h.0 in
    let near : tail < head.number + pages = h.2 in
    elim (leb_tells (head.number + pages) (tail + 1)) [
      | inl t ↦ rw (t.0) (
        all_append _ (stored head) [] (far_gone pages reader (tail + 1) head.number head.records t.1 low) tt,
        circle_left_at_next pages tail (head.number + 1) reader rest h.5 (omega arith),
        refl,
      )
      | inr f ↦ rw (f.0) (
        tt,
        circle_left_at_next pages tail head.number reader (head ∷ rest) (omega arith, h.1, h.2, h.3, h.4, h.5) f.1,
        refl,
      )
    ]

pub filter_gone : (p : Accepted → Bool) (r g l t : List Accepted) → AllByRecursion (λ x. p x ≡ false) r → AllByRecursion (λ x. p x ≡ true) g → AllByRecursion (λ x. p x ≡ false) l → AllByRecursion (λ x. p x ≡ false) t → (filter p ((r ++ (g ++ l)) ++ t) ≡ g) × (filter (λ x. not (p x)) ((r ++ (g ++ l)) ++ t) ≡ (r ++ l) ++ t)
filter_gone p r g l t hr hg hl ht =
    let q : Accepted → Bool = λ x. not (p x) in
    let keeps : (xs : List Accepted) → AllByRecursion (λ x. p x ≡ false) xs → filter q xs ≡ xs = λ xs h. filter_all q xs (all_weaker _ _ (λ x e. not_from_false _ e) xs h) in (
      filter-append p (r ++ (g ++ l)) t ∙ rw (filter-append p r (g ++ l), filter-append p g l, filter_none p r hr, filter_all p g hg, filter_none p l hl, filter_none p t ht, append-nil, append-nil) refl,
      filter-append q (r ++ (g ++ l)) t ∙ rw (filter-append q r (g ++ l), filter-append q g l, keeps r hr, filter_none q g (all_weaker _ _ (λ x e. not_from_true _ e) g hg), keeps l hl, keeps t ht) refl,
    )

-- what the kept records lose and keep where the tail moves on
pub moved_records : (pages tail : ℕ) (reader : Option ℕ) (r t : List Accepted) (ps : List StoredPage) → IsCircle pages tail (page_after reader) ps → AreLeft pages reader (tail + 1) r → AreLeft pages reader (tail + 1) t → (filter (is_overrun pages reader (tail + 1)) ((r ++ flat_map stored ps) ++ t) ≡ flat_map stored (overrun_head pages tail ps)) × (filter (λ x. not (is_overrun pages reader (tail + 1) x)) ((r ++ flat_map stored ps) ++ t) ≡ (r ++ flat_map stored (cleared pages tail ps)) ++ t)
moved_records pages tail reader r t ps h hr ht =
    let s = circle_split pages tail reader ps h in
    let parts : flat_map stored ps ≡ flat_map stored (overrun_head pages tail ps) ++ flat_map stored (cleared pages tail ps) =
    ap (flat_map stored) s.2 ∙ flat_map-append stored (overrun_head pages tail ps) (cleared pages tail ps) in
    let f = filter_gone (is_overrun pages reader (tail + 1)) r (flat_map stored (overrun_head pages tail ps)) (flat_map stored (cleared pages tail ps)) t hr s.0 s.1 ht in
    rw parts f

-- how many records and bytes go with the head page
pub lost_count : (pages tail : ℕ) (ps : List StoredPage) → sum_by (λ p. length p.records) (overrun_head pages tail ps) ≡ length (flat_map stored (overrun_head pages tail ps))
lost_count pages tail [] = refl
lost_count pages tail (head ∷ rest) =
    elim (cases_Bool (leb (head.number + pages) (tail + 1))) [
      | inl t ↦ rw t (sym (rw (length-append, length-map) (omega arith)))
      | inr f ↦ rw f refl
    ]

pub lost_size : (pages tail low : ℕ) (ps : List StoredPage) → IsCircle pages tail low ps → sum_by (λ p. p.filled) (overrun_head pages tail ps) ≡ sum_by (λ r. length r.bytes) (flat_map stored (overrun_head pages tail ps))
lost_size pages tail low [] h = refl
lost_size pages tail low (head ∷ rest) h =
    elim (cases_Bool (leb (head.number + pages) (tail + 1))) [
      | inl t ↦ rw t (rw append-nil (omega (arith, h.3)))
      | inr f ↦ rw f refl
    ]

-- a head page that is in the way has records
pub loses_head : (pages tail low : ℕ) (ps : List StoredPage) → IsCircle pages tail low ps → head_is_in_the_way pages tail ps ≡ nat_lt 0 (length (flat_map stored (overrun_head pages tail ps)))
loses_head pages tail low [] h = refl
loses_head pages tail low (head ∷ rest) h =
    let some : 0 < length head.records = h.4 in
    elim (cases_Bool (leb (head.number + pages) (tail + 1))) [
      | inl t ↦ rw (t, append-nil, length-map) (sym (lt-ltb 0 (length head.records) some))
      | inr f ↦ rw f refl
    ]

-- a list of rising numbers: from a lower one, with some left out, with one more
pub rising_lower : (low next high : ℕ) (xs : List Accepted) → low ≤ next → IsRising next high xs → IsRising low high xs
rising_lower low next high [] l h = tt
rising_lower low next high (x ∷ xs) l h = let k : next ≤ x.number = h.0 in (omega arith, h.1, h.2)

pub rising_filter : (p : Accepted → Bool) (low high : ℕ) (xs : List Accepted) → IsRising low high xs → IsRising low high (filter p xs)
rising_filter p low high [] h = tt
rising_filter p low high (x ∷ xs) h =
    let rest = rising_filter p (x.number + 1) high xs h.2 in
    let l : low ≤ x.number = h.0 in
    elim (cases_Bool (p x)) [
      | inl t ↦ rw t (h.0, h.1, rest)
      | inr f ↦ rw f (rising_lower low (x.number + 1) high (filter p xs) (omega arith) rest)
    ]

pub rising_push : (low high : ℕ) (y : Accepted) (xs : List Accepted) → low ≤ high → y.number ≡ high → IsRising low high xs → IsRising low (high + 1) (xs ++ y ∷ [])
rising_push low high y [] l e h = (omega arith, omega arith, tt)
rising_push low high y (x ∷ xs) l e h =
    let k : x.number < high = h.1 in
    (h.0, omega arith, rising_push (x.number + 1) high y xs (omega arith) e h.2)

pub all_filter : {X : Type 0} (P : X → Type 0) (p : X → Bool) (xs : List X) → AllByRecursion P xs → AllByRecursion P (filter p xs)
all_filter P p [] h = tt
all_filter P p (x ∷ xs) h =
    elim (cases_Bool (p x)) [
      | inl t ↦ rw t (h.0, all_filter P p xs h.1)
      | inr f ↦ rw f (all_filter P p xs h.1)
    ]

-- at least 16 bytes a record
pub storable_count : (xs : List Accepted) → AllByRecursion IsStorable xs → 16 * length xs ≤ sum_by (λ r. length r.bytes) xs
storable_count [] h = omega arith
storable_count (x ∷ xs) h =
    let b : 16 ≤ length x.bytes = h.0.0 in
    let rest = storable_count xs h.1 in
    rw sum_by-cons (omega arith)

-- each page of the circle has records
pub circle_nonempty : (pages tail low : ℕ) (ps : List StoredPage) → IsCircle pages tail low ps → AllByRecursion (λ p. 0 < length p.records) ps
circle_nonempty pages tail low [] h = tt
circle_nonempty pages tail low (p ∷ ps) h = (h.4, circle_nonempty pages tail (p.number + 1) ps h.5)
