-- The names of items, which go up to the first `.`.
use Rattle.std.proofs.Common.{◌≡◌, ◌≢◌, ◌⊎◌, inl, inr, refl, ℕ, true, ◌==◌, bytes_eq, List, [], ◌∷◌, ap, sym, ◌∙◌, subst}
use Rattle.std.specs.List.{All, AllPass, prefix_len}
use Rattle.std.proofs.lemmas.Bool.{or_cases, or_left, or_right, not-false, not-true, eqb-true, eqb-false}
use Rattle.std.proofs.lemmas.List.{take-append-drop}
use Rattle.std.proofs.lemmas.List.Elements.{All-weaker}
use Rattle.std.proofs.lemmas.List.Sums.{AllPass-from_list_all}
use Rattle.std.proofs.lemmas.Slice.Eq.{bytes_eq-Decides}
use Rattle.trace_lex.specs.Prefixes.{is_not}
use Rattle.trace_lex.proofs.Lists.{BeginsNot}
use Rattle.trace_trigger.specs.declared.piece.ListItem.{ListItem}
use Rattle.trace_trigger.specs.HistLists.{names_of, item_name, item_suffix, is_named}
use Rattle.trace_trigger.specs.HistGrammar.{IsItem, HasName}
use Rattle.trace_trigger.proofs.CutLemmas.{free_passes}
use Rattle.trace_trigger.proofs.WordLemmas.{run_taken, run_dropped}
use Rattle.trace_trigger.proofs.PartLaws.{run_passes, run_stops}
use Rattle.trace_trigger.proofs.ListLaws.{Member}
use Rattle.trace_trigger.proofs.SubjectLaws.{HasSome}

-- ---- an item is its name and its suffix

suffix_begins : (item : List ℕ) → (item_suffix item ≡ []) ⊎ ((rest : List ℕ) × (item_suffix item ≡ 46 ∷ rest))
suffix_begins item = by (item_suffix item) (run_stops (is_not 46) item)
  where
    by : (suffix : List ℕ) → BeginsNot (is_not 46) suffix → (suffix ≡ []) ⊎ ((rest : List ℕ) × (suffix ≡ 46 ∷ rest))
    by [] stops = inl refl
    by (b ∷ rest) stops = inr (rest, ap (λ c. c ∷ rest) (eqb-true b 46 (not-false (b == 46) stops)))

undotted : (item : List ℕ) → All (λ b. b ≢ 46) (item_name item)
undotted item =
    let passes : AllPass (is_not 46) (item_name item) = AllPass-from_list_all (is_not 46) (item_name item) (run_passes (is_not 46) item) in
    All-weaker (λ b. is_not 46 b ≡ true) (λ b. b ≢ 46) (λ b e. eqb-false b 46 (not-true (b == 46) e)) (item_name item) passes

pub item_split : (item : List ℕ) → IsItem item (item_name item) (item_suffix item)
item_split item = record { cut = sym (take-append-drop (prefix_len (is_not 46) item) item); undotted = undotted item; begins = suffix_begins item }

-- in one way
pub item_is : (item name suffix : List ℕ) → IsItem item name suffix → (item_name item ≡ name) × (item_suffix item ≡ suffix)
item_is item name suffix is =
    let passes : AllPass (is_not 46) name = free_passes 46 name is.undotted in (
      ap item_name is.cut ∙ run_taken (is_not 46) name suffix passes dot,
      ap item_suffix is.cut ∙ run_dropped (is_not 46) name suffix passes dot,
    )
  where
    dot : BeginsNot (is_not 46) suffix
    dot = by is.begins
      where
        by : (suffix ≡ []) ⊎ ((rest : List ℕ) × (suffix ≡ 46 ∷ rest)) → BeginsNot (is_not 46) suffix
        by (inl none) = subst (BeginsNot (is_not 46)) (sym none) tt
        by (inr some) = subst (BeginsNot (is_not 46)) (sym some.1) refl

pub own_name : (item : List ℕ) → HasName (item_name item) item
own_name item = (item_suffix item, item_split item)

pub has_name : (name item : List ℕ) → item_name item ≡ name → HasName name item
has_name name item e = subst (λ (it : List ℕ). HasName it item) e (own_name item)

pub name_is : (name item : List ℕ) → HasName name item → item_name item ≡ name
name_is name item is = (item_is item name is.0 is.1).0

-- ---- items of a name

pub some_named : (name : List ℕ) (items : List ListItem) → is_named items name ≡ true → HasSome (HasName name) (names_of items)
some_named name [] e = absurd (cc)
some_named name (item ∷ items) e = by (or_cases (bytes_eq name (item_name item.bytes)) (is_named items name) e) (some_named name items)
  where
    by : (bytes_eq name (item_name item.bytes) ≡ true) ⊎ (is_named items name ≡ true) → (is_named items name ≡ true → HasSome (HasName name) (names_of items)) → HasSome (HasName name) (names_of (item ∷ items))
    by (inl f) next = record { element = item.bytes; member = inl refl; holds = has_name name item.bytes (sym ((bytes_eq-Decides name (item_name item.bytes)).0 f)) }
    by (inr f) next = let rest = next f in record { element = rest.element; member = inr rest.member; holds = rest.holds }

among_named : (name : List ℕ) (items : List ListItem) (item : List ℕ) → item_name item ≡ name → Member item (names_of items) → is_named items name ≡ true
among_named name [] item e is = absurd is
among_named name (other ∷ items) item e (inl same) =
    or_left (bytes_eq name (item_name other.bytes)) (is_named items name) ((bytes_eq-Decides name (item_name other.bytes)).1 (sym e ∙ ap item_name same))
among_named name (other ∷ items) item e (inr is) =
    or_right (bytes_eq name (item_name other.bytes)) (is_named items name) (among_named name items item e is)

pub named_some : (name : List ℕ) (items : List ListItem) → HasSome (HasName name) (names_of items) → is_named items name ≡ true
named_some name items is = among_named name items is.element (name_is name is.element is.holds) is.member
