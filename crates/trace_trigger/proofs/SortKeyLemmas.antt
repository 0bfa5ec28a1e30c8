-- The sort keys of a list, by whether it is empty.
use Rattle.std.proofs.Common.{◌≡◌, ◌∙◌, ◌==◌, true, false, refl, List, [], ◌∷◌, length, map, arith}
use Rattle.std.proofs.lemmas.Bool.Decides.{nat_tests}
use Rattle.std.specs.Prelude.{Result, Ok, Err, IfOk}
use Rattle.std.specs.declared.alloc.AllocError.{AllocError}
use Rattle.std.specs.Global.{Vec}
use Rattle.trace_trigger.specs.declared.spec.SortKey.{SortKey}
use Rattle.trace_trigger.specs.declared.piece.ListItem.{ListItem}
use Rattle.trace_trigger.specs.HistLists.{sort_keys, sort_key_of}

some_written : (items : List ListItem) → (length items == 0) ≡ false → map sort_key_of items ≡ sort_keys items
some_written [] h = absurd (cc)
some_written (item ∷ items) h = refl

none_written : (items : List ListItem) → (length items == 0) ≡ true → sort_keys [] ≡ sort_keys items
none_written [] h = refl
none_written (item ∷ items) h = let more : (length (item ∷ items) == 0) ≡ false = grind (arith, nat_tests) in absurd (cc)

pub sort_keys_some : (items : List ListItem) → (length items == 0) ≡ false → (found : Result (Vec SortKey) AllocError) → IfOk found (λ keys. keys.items ≡ map sort_key_of items)
    → IfOk found (λ keys. keys.items ≡ sort_keys items)
sort_keys_some items some (Ok keys) e = e ∙ some_written items some
sort_keys_some items some (Err error) e = tt

pub sort_keys_none : (items : List ListItem) → (length items == 0) ≡ true → (found : Result (Vec SortKey) AllocError) → IfOk found (λ keys. keys.items ≡ sort_keys [])
    → IfOk found (λ keys. keys.items ≡ sort_keys items)
sort_keys_none items none (Ok keys) e = e ∙ none_written items none
sort_keys_none items none (Err error) e = tt
