-- Whether hist triggers say the same is decided by the function that compares them.
use Rattle.std.proofs.Common.{◌≡◌, ◌↔◌, refl, ℕ, Bool, false, true, ◌&&◌, bytes_eq, List, Option, None, Some, ap}
use Rattle.std.specs.Bool.{Decides}
use Rattle.std.specs.Cmp.Lexicographic.{pointwise, pointwise_decides}
use Rattle.std.proofs.lemmas.Bool.{and_parts, and_from}
use Rattle.std.proofs.lemmas.Slice.Eq.{bytes_eq-Decides}
use Rattle.trace_trigger.specs.HistSpecs.{SpecSeen, written_of}
use Rattle.trace_trigger.specs.SameSpecs.{IsSame, is_same, same_sort_key, same_text, filter_text}
use Rattle.trace_trigger.proofs.FittingLaws.{sort_key-Decides}

-- two strings that are each there or not
text-Decides : (left right : Option (List ℕ)) → Decides (same_text left right) (left ≡ right)
text-Decides None None = (λ is. refl, λ same. refl)
text-Decides None (Some right) = (λ is. absurd (let no : false ≡ true = is in cc), λ same. absurd (let no : None ≡ Some right = same in cc))
text-Decides (Some left) None = (λ is. absurd (let no : false ≡ true = is in cc), λ same. absurd (let no : Some left ≡ None = same in cc))
text-Decides (Some left) (Some right) =
    let bytes = bytes_eq-Decides left right in
    (λ is. ap Some (bytes.0 is), λ same. bytes.1 (let some : Some left ≡ Some right = same in cc))

module _ (left right : SpecSeen) where
  abbrev names_agree : Bool
  names_agree = same_text left.name right.name

  abbrev keys_agree : Bool
  keys_agree = pointwise bytes_eq (written_of left.keys) (written_of right.keys)

  abbrev values_agree : Bool
  values_agree = pointwise bytes_eq left.values right.values

  abbrev sort_agrees : Bool
  sort_agrees = pointwise same_sort_key left.sort right.sort

  abbrev filters_agree : Bool
  filters_agree = same_text (filter_text left.filter) (filter_text right.filter)

  keys_decided : Decides keys_agree (written_of left.keys ≡ written_of right.keys)
  keys_decided = pointwise_decides bytes_eq-Decides (written_of left.keys) (written_of right.keys)

  values_decided : Decides values_agree (left.values ≡ right.values)
  values_decided = pointwise_decides bytes_eq-Decides left.values right.values

  sort_decided : Decides sort_agrees (left.sort ≡ right.sort)
  sort_decided = pointwise_decides sort_key-Decides left.sort right.sort

  is-same : is_same left right ≡ true → IsSame left right
  unfolding is_same
  is-same is =
      let name = and_parts names_agree (keys_agree && (values_agree && (sort_agrees && filters_agree))) is in
      let keys = and_parts keys_agree (values_agree && (sort_agrees && filters_agree)) name.1 in
      let values = and_parts values_agree (sort_agrees && filters_agree) keys.1 in
      let sort = and_parts sort_agrees filters_agree values.1 in
      record {
        name = (text-Decides left.name right.name).0 name.0;
        keys = keys_decided.0 keys.0;
        values = values_decided.0 values.0;
        sort = sort_decided.0 sort.0;
        filter = (text-Decides (filter_text left.filter) (filter_text right.filter)).0 sort.1;
      }

  same-is : IsSame left right → is_same left right ≡ true
  unfolding is_same
  same-is same =
      and_from names_agree (keys_agree && (values_agree && (sort_agrees && filters_agree))) ((text-Decides left.name right.name).1 same.name)
      (and_from keys_agree (values_agree && (sort_agrees && filters_agree)) (keys_decided.1 same.keys)
      (and_from values_agree (sort_agrees && filters_agree) (values_decided.1 same.values)
      (and_from sort_agrees filters_agree (sort_decided.1 same.sort)
      ((text-Decides (filter_text left.filter) (filter_text right.filter)).1 same.filter))))

pub same_is_decided : (left right : SpecSeen) → (is_same left right ≡ true) ↔ IsSame left right
same_is_decided left right = (is-same left right, same-is left right)
