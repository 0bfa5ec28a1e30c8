-- The ranges that are found in a class from the left are those of the members that its grammar gives.
use Rattle.std.proofs.Common.{◌≡◌, ℕ, ◌==◌, nat_le, Bool, true, false, not, ◌||◌, if◌then◌else◌, IsTrue, List, [], ◌∷◌, map, Any, refl, sym, ap, ◌∙◌, ◌↔◌, subst, arith}
use Rattle.std.specs.List.{flat_map, list_any}
use Rattle.std.proofs.lemmas.Bool.{cond-true, cond-false, eqb-true, leb-true, le-leb, and_parts, and_from}
use Rattle.std.proofs.lemmas.List.Folds.{Any-from_list_any, list_any-from_Any}
use Rattle.trace_filter.proofs.Ends.{differs, other}
use Rattle.trace_filter.specs.Globs.{Range, is_in_range, ranges_of, Class, is_other, is_member, is_in_class}
use Rattle.trace_filter.specs.ClassGrammar.{Member, Single, Span, member_text, Has, GoesOn, AreMembers, AreWrittenOf, IsWrittenIn, HoldsFrom, ClassHolds}

-- the members of bytes, found from the left
abbrev members_of : List ℕ → List Member
members_of [] = []
members_of (a ∷ []) = Single a ∷ []
members_of (a ∷ b ∷ []) = Single a ∷ members_of (b ∷ [])
members_of (a ∷ b ∷ c ∷ bs) = if b == 45 then Span a c ∷ members_of bs else (Single a ∷ members_of (b ∷ c ∷ bs))

-- ---- what is written is found

single_found : (a : ℕ) (bs : List ℕ) → (GoesOn bs → ⊥) → members_of (a ∷ bs) ≡ Single a ∷ members_of bs
single_found a [] h = refl
single_found a (b ∷ []) h = refl
single_found a (b ∷ c ∷ bs) h = by (b == 45) refl
  where
    by : (t : Bool) → (b == 45) ≡ t → members_of (a ∷ b ∷ c ∷ bs) ≡ Single a ∷ members_of (b ∷ c ∷ bs)
    by true e = absurd (h (record { upper = c; rest = bs; text = ap (λ x. x ∷ c ∷ bs) (sym (eqb-true b 45 e)) }))
    by false e = cond-false (b == 45) _ _ e

found : (members : List Member) → AreMembers members → members_of (flat_map member_text members) ≡ members
found [] h = refl
found (Single a ∷ members) h = single_found a (flat_map member_text members) h.0 ∙ ap (λ ms. Single a ∷ ms) (found members h.1)
found (Span a c ∷ members) h = ap (λ ms. Span a c ∷ ms) (found members h.1)

-- so they are the only ones
only : (bytes : List ℕ) (members : List Member) → AreWrittenOf bytes members → members ≡ members_of bytes
only bytes members w = sym (found members w.lawful) ∙ ap members_of w.text

pub one_list_of_members : (bytes : List ℕ) (one other : List Member) → AreWrittenOf bytes one → AreWrittenOf bytes other → one ≡ other
one_list_of_members bytes one other v w = only bytes one v ∙ sym (only bytes other w)

-- ---- what is found is written

goes_on : (b c : ℕ) (bs : List ℕ) → (b == 45) ≡ false → GoesOn (b ∷ c ∷ bs) → ⊥
goes_on b c bs e g =
    let is : 45 ≡ b = cc (g.text) in
    differs b 45 e (sym is)

ends_here : (b : ℕ) → GoesOn (b ∷ []) → ⊥
ends_here b g = cc (g.text)

none_here : GoesOn [] → ⊥
none_here g = cc (g.text)

written : (bytes : List ℕ) → AreWrittenOf bytes (members_of bytes)
written [] = record { lawful = tt; text = refl }
written (a ∷ []) = record { lawful = (none_here, tt); text = refl }
written (a ∷ b ∷ []) = record { lawful = (ends_here b, (none_here, tt)); text = refl }
written (a ∷ b ∷ c ∷ bs) = by (b == 45) refl (written bs) (written (b ∷ c ∷ bs))
  where
    by : (t : Bool) → (b == 45) ≡ t → AreWrittenOf bs (members_of bs) → AreWrittenOf (b ∷ c ∷ bs) (members_of (b ∷ c ∷ bs)) → AreWrittenOf (a ∷ b ∷ c ∷ bs) (members_of (a ∷ b ∷ c ∷ bs))
    by true e v w = subst (AreWrittenOf (a ∷ b ∷ c ∷ bs)) (sym (cond-true (b == 45) _ _ e))
        (record { lawful = (tt, v.lawful); text = ap (λ bytes. a ∷ 45 ∷ c ∷ bytes) v.text ∙ ap (λ x. a ∷ x ∷ c ∷ bs) (sym (eqb-true b 45 e)) })
    by false e v w = subst (AreWrittenOf (a ∷ b ∷ c ∷ bs)) (sym (cond-false (b == 45) _ _ e))
        (record { lawful = (subst (λ bytes. GoesOn bytes → ⊥) (sym w.text) (goes_on b c bs e), w.lawful); text = ap (λ bytes. a ∷ bytes) w.text })

pub class_is_written : (bytes : List ℕ) → (members : List Member) × AreWrittenOf bytes members
class_is_written bytes = (members_of bytes, written bytes)

-- ---- which bytes they have

abbrev range_of : Member → Range
range_of (Single a) = record { lower = a; upper = a }
range_of (Span a c) = record { lower = a; upper = c }

ranges_found : (bytes : List ℕ) → ranges_of bytes ≡ map range_of (members_of bytes)
ranges_found [] = refl
ranges_found (a ∷ []) = refl
ranges_found (a ∷ b ∷ []) = refl
ranges_found (a ∷ b ∷ c ∷ bs) = by (b == 45) refl (ranges_found bs) (ranges_found (b ∷ c ∷ bs))
  where
    by : (t : Bool) → (b == 45) ≡ t → ranges_of bs ≡ map range_of (members_of bs) → ranges_of (b ∷ c ∷ bs) ≡ map range_of (members_of (b ∷ c ∷ bs))
        → ranges_of (a ∷ b ∷ c ∷ bs) ≡ map range_of (members_of (a ∷ b ∷ c ∷ bs))
    by true e v w = cond-true (b == 45) _ _ e ∙ (ap (λ rs. record { lower = a; upper = c } ∷ rs) v ∙ sym (ap (map range_of) (cond-true (b == 45) (Span a c ∷ members_of bs) (Single a ∷ members_of (b ∷ c ∷ bs)) e)))
    by false e v w = cond-false (b == 45) _ _ e ∙ (ap (λ rs. record { lower = a; upper = a } ∷ rs) w ∙ sym (ap (map range_of) (cond-false (b == 45) (Span a c ∷ members_of bs) (Single a ∷ members_of (b ∷ c ∷ bs)) e)))

any_member : (b : ℕ) (members : List Member) → list_any (is_in_range b) (map range_of members) ≡ list_any (λ member. is_in_range b (range_of member)) members
any_member b [] = refl
any_member b (member ∷ members) = ap (λ t. is_in_range b (range_of member) || t) (any_member b members)

has_from : (b : ℕ) (member : Member) → is_in_range b (range_of member) ≡ true → Has b member
has_from b (Single a) h = let p = and_parts (nat_le a b) (nat_le b a) h in omega (arith, leb-true a b p.0, leb-true b a p.1)
has_from b (Span a c) h = let p = and_parts (nat_le a b) (nat_le b c) h in (leb-true a b p.0, leb-true b c p.1)

has_to : (b : ℕ) (member : Member) → Has b member → is_in_range b (range_of member) ≡ true
has_to b (Single a) h = and_from (nat_le a b) (nat_le b a) (le-leb a b (omega (arith, h))) (le-leb b a (omega (arith, h)))
has_to b (Span a c) h = and_from (nat_le a b) (nat_le b c) (le-leb a b h.0) (le-leb b c h.1)

member_test : (bytes : List ℕ) (b : ℕ) → is_member bytes b ≡ list_any (λ member. is_in_range b (range_of member)) (members_of bytes)
member_test bytes b = ap (list_any (is_in_range b)) (ranges_found bytes) ∙ any_member b (members_of bytes)

member_is_written : (bytes : List ℕ) (b : ℕ) → IsTrue (is_member bytes b) → IsWrittenIn bytes b
member_is_written bytes b h =
    let x = Any-from_list_any (λ member. is_in_range b (range_of member)) (members_of bytes) (sym (member_test bytes b) ∙ h) in
    record { members = members_of bytes; written = written bytes; has = (x.0, x.1, x.2, x.3, has_from b x.1 x.4) }

written_is_member : (bytes : List ℕ) (b : ℕ) → IsWrittenIn bytes b → IsTrue (is_member bytes b)
written_is_member bytes b w =
    let x : Any (Has b) (members_of bytes) = subst (λ members. Any (Has b) members) (only bytes w.members w.written) w.has in
    member_test bytes b ∙ list_any-from_Any (λ member. is_in_range b (range_of member)) (members_of bytes) (x.0, x.1, x.2, x.3, has_to b x.1 x.4)

pub class_holds_as_written : (class : Class) (b : ℕ) → IsTrue (is_in_class class b) ↔ ClassHolds class b
class_holds_as_written class b = by class.negated
  where
    negation : (t : Bool) → IsTrue (not t) ↔ (IsTrue t → ⊥)
    negation true = ((λ h. absurd (cc)), (λ h. absurd (h refl)))
    negation false = ((λ h e. cc), (λ h. refl))

    by : (negated : Bool) → IsTrue (is_other negated (is_member class.members b)) ↔ HoldsFrom negated class.members b
    by true = let n = negation (is_member class.members b) in
        ((λ h w. n.0 h (written_is_member class.members b w)), (λ h. n.1 (λ m. h (member_is_written class.members b m))))
    by false = (member_is_written class.members b, written_is_member class.members b)
