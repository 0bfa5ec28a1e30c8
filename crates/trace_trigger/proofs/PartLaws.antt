-- The parts of a text: its first word, and what follows.
use Rattle.std.proofs.Common.{◌≡◌, ◌⊎◌, inl, inr, refl, ℕ, suc, cond, append-nil, ◌+◌, ◌<◌, Bool, true, false, not, ◌&&◌, ◌==◌, nat_lt, if◌then◌else◌, bytes_eq, codes, List, [], ◌∷◌, ◌++◌, length, take, drop, map, Option, Some, None, ap, sym, ◌∙◌, subst, arith, lt-ltb, ltb-true}
use Rattle.std.specs.List.{AllByRecursion, AllPass, AllZip, join_with_byte, list_all, prefix_len}
use Rattle.std.proofs.lemmas.Bool.{or_cases, and_parts, and_from, eqb-true, ltb-false}
use Rattle.std.proofs.lemmas.List.{take-append-drop}
use Rattle.std.proofs.lemmas.List.Elements.{All-head, recursion_from_All}
use Rattle.std.proofs.lemmas.List.Folds.{length-prefix_len}
use Rattle.std.proofs.lemmas.List.Sums.{AllPass-from_list_all, list_all-from_AllPass}
use Rattle.std.proofs.lemmas.Slice.Eq.{bytes_eq-Decides}
use Rattle.trace_lex.specs.Blanks.{is_blank, AreBlanks, BeginsUnblank}
use Rattle.trace_lex.specs.Names.{is_name_byte, is_name}
use Rattle.trace_lex.proofs.Lists.{BeginsNot, run_ends}
use Rattle.trace_trigger.specs.Frames.{mark, is_unblank, after_blanks, IsConditional, IsTail}
use Rattle.trace_trigger.specs.declared.spec.Action.{Action}
use Rattle.trace_trigger.specs.declared.spec.Action.TheVariants.{Attach, Pause, Continue, Clear}
use Rattle.trace_trigger.specs.declared.spec.SortKey.{SortKey}
use Rattle.trace_trigger.specs.declared.piece.ListItem.{ListItem}
use Rattle.trace_trigger.specs.HistAttributes.{attribute_of, attributes_at}
use Rattle.trace_trigger.specs.HistPieces.{pieces_of}
use Rattle.trace_trigger.specs.HistLists.{names_of}
use Rattle.trace_trigger.specs.HistParts.{start_of, body_of, word_len, attributes_of, end_of, tail_of, is_condition, condition_of, offset_in}
use Rattle.trace_trigger.specs.private.MistakeOffsets.{tail_offsets}
use Rattle.trace_trigger.specs.HistTexts.{IsHistText}
use Rattle.trace_trigger.specs.HistGrammar.{IsCut, Setting, Keys, Values, Sort, Size, Name, Asks, Subject, OfKeys, OfValues, OfSort, OfSize, OfName, OfAction, IsHead, HasValue, IsWordFor, IsDirected, IsKey, IsSortItem, WritesKeys, WritesValues, Writes}
use Rattle.trace_trigger.proofs.CutLemmas.{located, cut_pieces}
use Rattle.trace_trigger.proofs.WordLemmas.{run_taken, run_dropped, name_passes}
use Rattle.trace_trigger.proofs.WrongLemmas.{each_weaker}
use Rattle.trace_trigger.proofs.UnblankLemmas.{IsUnblank, both_unblank, weaker_all, number_unblank}
use Rattle.trace_trigger.proofs.ModifierLaws.{suffix_unblank}
use Rattle.trace_trigger.proofs.AttributeLaws.{IsRead, written_is_read, read_is_written}

-- ---- runs

pub run_passes : (p : ℕ → Bool) (xs : List ℕ) → list_all p (take (prefix_len p xs) xs) ≡ true
run_passes p [] = refl
run_passes p (x ∷ xs) = by (p x) refl (run_passes p xs)
  where
    by : (b : Bool) → p x ≡ b → list_all p (take (prefix_len p xs) xs) ≡ true → list_all p (take (cond b (1 + prefix_len p xs) 0) (x ∷ xs)) ≡ true
    by true e next = let shift : 1 + prefix_len p xs ≡ suc (prefix_len p xs) = omega arith in ap (λ n. list_all p (take n (x ∷ xs))) shift ∙ and_from (p x) (list_all p (take (prefix_len p xs) xs)) e next
    by false e next = refl

pub run_stops : (p : ℕ → Bool) (xs : List ℕ) → BeginsNot p (drop (prefix_len p xs) xs)
run_stops p [] = tt
run_stops p (x ∷ xs) = by (p x) refl (run_stops p xs)
  where
    by : (b : Bool) → p x ≡ b → BeginsNot p (drop (prefix_len p xs) xs) → BeginsNot p (drop (cond b (1 + prefix_len p xs) 0) (x ∷ xs))
    by true e next = let shift : 1 + prefix_len p xs ≡ suc (prefix_len p xs) = omega arith in subst (λ n. BeginsNot p (drop n (x ∷ xs))) (sym shift) next
    by false e next = e

-- ---- the first word

abbrev pub text_of : Bool → List ℕ → List ℕ → List ℕ
text_of removes word tail = mark removes ++ codes "hist:" ++ word ++ tail

abbrev pub start_for : Bool → ℕ
start_for removes = length (mark removes ++ codes "hist:")

start_is : (removes : Bool) (word tail : List ℕ) → start_of (text_of removes word tail) ≡ start_for removes
start_is true word tail = refl
start_is false word tail = refl

body_is : (removes : Bool) (word tail : List ℕ) → body_of (text_of removes word tail) ≡ word ++ tail
body_is true word tail = refl
body_is false word tail = refl

module _ (removes : Bool) (word tail : List ℕ) (passes : AllPass is_unblank word) (stops : BeginsNot is_unblank tail) where
  pub attributes_are : attributes_of (text_of removes word tail) ≡ attributes_at (start_for removes) word
  unfolding attributes_of
  attributes_are =
      (λ i. attributes_at (start_is removes word tail i) (take (word_len (body_is removes word tail i)) (body_is removes word tail i)))
      ∙ ap (attributes_at (start_for removes)) (run_taken is_unblank word tail passes stops)

  pub tail_is : tail_of (text_of removes word tail) ≡ after_blanks tail
  unfolding tail_of
  tail_is =
      ap (λ (body : List ℕ). after_blanks (drop (word_len body) body)) (body_is removes word tail)
      ∙ ap after_blanks (run_dropped is_unblank word tail passes stops)

  pub end_is : end_of (text_of removes word tail) ≡ start_for removes + length word
  end_is =
      (λ i. start_is removes word tail i + word_len (body_is removes word tail i))
      ∙ ap (λ n. start_for removes + n) (run_ends is_unblank word tail passes stops)

-- each text that begins so has these parts
pub record HasParts (text : List ℕ) : Type 0 where
  pub removes : Bool
  pub word : List ℕ
  pub tail : List ℕ
  pub cut : text ≡ text_of removes word tail
  pub passes : AllPass is_unblank word
  pub stops : BeginsNot is_unblank tail

whole_cut : (removes : Bool) (n : ℕ) (body : List ℕ) → mark removes ++ (codes "hist:" ++ body) ≡ text_of removes (take n body) (drop n body)
whole_cut true n body = ap (λ (rest : List ℕ). codes "!hist:" ++ rest) (sym (take-append-drop n body))
whole_cut false n body = ap (λ (rest : List ℕ). codes "hist:" ++ rest) (sym (take-append-drop n body))

parts_after : (removes : Bool) (text body : List ℕ) → text ≡ mark removes ++ (codes "hist:" ++ body) → HasParts text
parts_after removes text body cut = record {
  removes = removes;
  word = take (prefix_len is_unblank body) body;
  tail = drop (prefix_len is_unblank body) body;
  cut = cut ∙ whole_cut removes (prefix_len is_unblank body) body;
  passes = AllPass-from_list_all is_unblank (take (prefix_len is_unblank body) body) (run_passes is_unblank body);
  stops = run_stops is_unblank body;
}

pub parts_of : (text : List ℕ) → IsHistText text → HasParts text
parts_of text (inl e) = parts_after false text (drop 5 text) (sym (take-append-drop 5 text) ∙ ap (λ (front : List ℕ). front ++ drop 5 text) e)
parts_of text (inr e) = parts_after true text (drop 6 text) (sym (take-append-drop 6 text) ∙ ap (λ (front : List ℕ). front ++ drop 6 text) e)

-- ---- what follows it

blank_begins : (bs : List ℕ) → AreBlanks bs → BeginsNot is_unblank bs
blank_begins [] all = tt
blank_begins (b ∷ bs) all = let P : ℕ → Type 0 = λ c. is_blank c ≡ true in ap not (All-head P b bs all)

front_begins : (front rest : List ℕ) → AreBlanks front → 0 < length front → BeginsNot is_unblank (front ++ rest)
front_begins [] rest all some = absurd (omega (arith, some))
front_begins (b ∷ bs) rest all some = let P : ℕ → Type 0 = λ c. is_blank c ≡ true in ap not (All-head P b bs all)

pub tail_stops : (tail : List ℕ) (condition : Option (List ℕ)) → IsTail tail condition → BeginsNot is_unblank tail
tail_stops tail None is = blank_begins tail is
tail_stops tail (Some filter) is = subst (BeginsNot is_unblank) (sym is.cut) (front_begins is.front (codes "if" ++ (is.between ++ filter)) is.before is.some_before)

pub begins_not : (filter : List ℕ) → BeginsUnblank filter → BeginsNot is_blank filter
begins_not filter begins = subst (BeginsNot is_blank) (sym begins.cut) begins.unblank

all_blank : (bs : List ℕ) → AreBlanks bs → after_blanks bs ≡ []
all_blank bs all = ap (λ (cs : List ℕ). after_blanks cs) (sym (append-nil bs)) ∙ run_dropped is_blank bs [] all tt

-- what is written so is a condition
pub record IsFound (tail : List ℕ) (condition : Option (List ℕ)) : Type 0 where
  pub found : condition_of (after_blanks tail) ≡ condition
  pub right : (text : List ℕ) → tail_offsets text (after_blanks tail) ≡ []

pub tail_found : (tail : List ℕ) (condition : Option (List ℕ)) → IsTail tail condition → IsFound tail condition
tail_found tail None is =
    let none : after_blanks tail ≡ [] = all_blank tail is in
    record { found = ap condition_of none; right = λ text. ap (tail_offsets text) none }
tail_found tail (Some filter) is =
    let rest : List ℕ = is.between ++ filter in
    let found : after_blanks tail ≡ codes "if" ++ rest = ap after_blanks is.cut ∙ run_dropped is_blank is.front (codes "if" ++ rest) is.before refl in
    let left : after_blanks rest ≡ filter = run_dropped is_blank is.between filter is.after (begins_not filter is.begins) in
    let blanks : nat_lt 0 (prefix_len is_blank rest) ≡ true = lt-ltb 0 (prefix_len is_blank rest) (omega (arith, run_ends is_blank is.between filter is.after (begins_not filter is.begins), is.some_after)) in
    let some : nat_lt 0 (length (after_blanks rest)) ≡ true = lt-ltb 0 (length (after_blanks rest)) (omega (arith, ap length left, ap length is.begins.cut)) in
    let holds : is_condition (codes "if" ++ rest) ≡ true = (λ i. blanks i && some i) in
    record {
      found = ap condition_of found ∙ ap (λ (b : Bool). if b then Some (after_blanks rest) else None) holds ∙ ap (λ (bs : List ℕ). Some bs) left;
      right = λ text. ap (tail_offsets text) found ∙ ap (λ (b : Bool). if nat_lt 0 (length (codes "if" ++ rest)) && not b then offset_in text (codes "if" ++ rest) ∷ [] else []) holds ∙ never text (codes "if" ++ rest);
    }
  where
    never : (text tail : List ℕ) → (if nat_lt 0 (length tail) && false then offset_in text tail ∷ [] else []) ≡ []
    never text tail = by (nat_lt 0 (length tail))
      where
        by : (b : Bool) → (if b && false then offset_in text tail ∷ [] else []) ≡ []
        by true = refl
        by false = refl

-- and a tail that is right is written so
some_blank : (tail : List ℕ) → list_all is_blank tail ≡ false → BeginsNot is_unblank tail → 0 < prefix_len is_blank tail
some_blank [] some begins = absurd (cc)
some_blank (b ∷ bs) some begins = by (is_blank b) refl begins
  where
    by : (c : Bool) → is_blank b ≡ c → not c ≡ false → 0 < cond c (1 + prefix_len is_blank bs) 0
    by true e f = omega arith
    by false e f = absurd (cc)

pub begins_unblank : (bs : List ℕ) → BeginsNot is_blank bs → 0 < length bs → BeginsUnblank bs
begins_unblank [] none some = absurd (omega (arith, some))
begins_unblank (b ∷ bs) none some = record { first = b; rest = bs; cut = refl; unblank = none }

conditional : (tail : List ℕ) → list_all is_blank tail ≡ false → BeginsNot is_unblank tail → is_condition (after_blanks tail) ≡ true → IsConditional tail (after_blanks (drop 2 (after_blanks tail)))
conditional tail more stops is =
    let found : List ℕ = after_blanks tail in
    let rest : List ℕ = drop 2 found in
    let parts = and_parts (bytes_eq (take 2 found) (codes "if") && nat_lt 0 (prefix_len is_blank rest)) (nat_lt 0 (length (after_blanks rest))) is in
    let first = and_parts (bytes_eq (take 2 found) (codes "if")) (nat_lt 0 (prefix_len is_blank rest)) parts.0 in
    let word : take 2 found ≡ codes "if" = (bytes_eq-Decides (take 2 found) (codes "if")).0 first.0 in
    let whole : tail ≡ take (prefix_len is_blank tail) tail ++ (codes "if" ++ (take (prefix_len is_blank rest) rest ++ after_blanks rest)) =
    sym (take-append-drop (prefix_len is_blank tail) tail)
    ∙ ap (λ (bs : List ℕ). take (prefix_len is_blank tail) tail ++ bs) (sym (take-append-drop 2 found) ∙ ap (λ (bs : List ℕ). bs ++ rest) word)
    ∙ ap (λ (bs : List ℕ). take (prefix_len is_blank tail) tail ++ (codes "if" ++ bs)) (sym (take-append-drop (prefix_len is_blank rest) rest)) in
    record {
      front = take (prefix_len is_blank tail) tail;
      between = take (prefix_len is_blank rest) rest;
      cut = whole;
      before = AllPass-from_list_all is_blank (take (prefix_len is_blank tail) tail) (run_passes is_blank tail);
      some_before = omega (arith, some_blank tail more stops, length-prefix_len is_blank tail);
      after = AllPass-from_list_all is_blank (take (prefix_len is_blank rest) rest) (run_passes is_blank rest);
      some_after = omega (arith, ltb-true 0 (prefix_len is_blank rest) first.1, length-prefix_len is_blank rest);
      begins = begins_unblank (after_blanks rest) (run_stops is_blank rest) (ltb-true 0 (length (after_blanks rest)) parts.1);
    }

-- what is left of a text that is not blank begins with no blank, and is something
blank_or_more : (tail : List ℕ) → list_all is_blank tail ≡ false → 0 < length (after_blanks tail)
blank_or_more [] e = absurd (cc)
blank_or_more (b ∷ bs) e = by (is_blank b) refl e (blank_or_more bs)
  where
    by : (c : Bool) → is_blank b ≡ c → (c && list_all is_blank bs) ≡ false → (list_all is_blank bs ≡ false → 0 < length (after_blanks bs)) → 0 < length (drop (cond c (1 + prefix_len is_blank bs) 0) (b ∷ bs))
    by true f g next =
        let shift : 1 + prefix_len is_blank bs ≡ suc (prefix_len is_blank bs) = omega arith in
        subst (λ n. 0 < length (drop n (b ∷ bs))) (sym shift) (next g)
    by false f g next = omega arith

pub tail_written : (text tail : List ℕ) → BeginsNot is_unblank tail → tail_offsets text (after_blanks tail) ≡ [] → IsTail tail (condition_of (after_blanks tail))
tail_written text tail stops right = by (list_all is_blank tail) refl
  where
    more : list_all is_blank tail ≡ false → (b : Bool) → is_condition (after_blanks tail) ≡ b → (c : Bool) → nat_lt 0 (length (after_blanks tail)) ≡ c
        → (if c && not b then offset_in text (after_blanks tail) ∷ [] else []) ≡ [] → IsTail tail (if b then Some (after_blanks (drop 2 (after_blanks tail))) else None)
    more e true f c g h = conditional tail e stops f
    more e false f true g h = absurd (cc)
    more e false f false g h = absurd (omega (arith, ltb-false 0 (length (after_blanks tail)) g, blank_or_more tail e))

    by : (b : Bool) → list_all is_blank tail ≡ b → IsTail tail (condition_of (after_blanks tail))
    by true e =
        let all : AreBlanks tail = AllPass-from_list_all is_blank tail e in
        let none : condition_of (after_blanks tail) ≡ None = ap condition_of (all_blank tail all) in
        subst (IsTail tail) (sym none) all
    by false e = more e (is_condition (after_blanks tail)) refl (nat_lt 0 (length (after_blanks tail))) refl right

-- ---- no attribute has a blank

joined_unblank : (byte : ℕ) → is_unblank byte ≡ true → (parts : List (List ℕ)) → AllByRecursion IsUnblank parts → IsUnblank (join_with_byte byte parts)
joined_unblank byte e [] all = refl
joined_unblank byte e (part ∷ []) all = all.0
joined_unblank byte e (part ∷ next ∷ parts) all =
    both_unblank part (byte ∷ join_with_byte byte (next ∷ parts)) all.0
    (and_from (is_unblank byte) (list_all is_unblank (join_with_byte byte (next ∷ parts))) e (joined_unblank byte e (next ∷ parts) all.1))

unnamed_blank : (b : ℕ) → is_blank b ≡ true → is_name_byte b ≡ false
unnamed_blank b e = by (or_cases (b == 32) (b == 9) e)
  where
    by : ((b == 32) ≡ true) ⊎ ((b == 9) ≡ true) → is_name_byte b ≡ false
    by (inl f) = ap is_name_byte (eqb-true b 32 f)
    by (inr f) = ap is_name_byte (eqb-true b 9 f)

named_unblank : (b : ℕ) → is_name_byte b ≡ true → is_unblank b ≡ true
named_unblank b e = by (is_blank b) refl
  where
    by : (c : Bool) → is_blank b ≡ c → not c ≡ true
    by true f = let g = unnamed_blank b f in absurd (cc)
    by false f = refl

name_unblank : (name : List ℕ) → is_name name ≡ true → IsUnblank name
name_unblank name e = weaker_all is_name_byte is_unblank named_unblank name (list_all-from_AllPass is_name_byte name (name_passes name e))

head_unblank : (subject : Subject) (head : List ℕ) → IsHead subject head → IsUnblank head
head_unblank OfKeys head (inl e) = ap (list_all is_unblank) e
head_unblank OfKeys head (inr e) = ap (list_all is_unblank) e
head_unblank OfValues head (inl e) = ap (list_all is_unblank) e
head_unblank OfValues head (inr (inl e)) = ap (list_all is_unblank) e
head_unblank OfValues head (inr (inr e)) = ap (list_all is_unblank) e
head_unblank OfSort head e = ap (list_all is_unblank) e
head_unblank OfSize head e = ap (list_all is_unblank) e
head_unblank OfName head e = ap (list_all is_unblank) e
head_unblank OfAction head e = absurd e

value_unblank : (subject : Subject) (attribute head value : List ℕ) → HasValue subject attribute head value → IsUnblank value → IsUnblank attribute
value_unblank subject attribute head value has e = ap (list_all is_unblank) has.cut ∙ both_unblank head value (head_unblank subject head has.begins) e

cut_unblank : (value : List ℕ) (items : List (List ℕ)) → IsCut 44 value items → AllByRecursion IsUnblank items → IsUnblank value
cut_unblank value items cut all = ap (list_all is_unblank) cut.whole ∙ joined_unblank 44 refl items all

directed_unblank : (item name : List ℕ) (descending : Bool) → IsUnblank name → IsDirected item name descending → IsUnblank item
directed_unblank item name true e cut = ap (list_all is_unblank) cut ∙ both_unblank name (codes ".descending") e refl
directed_unblank item name false e (inl cut) = ap (list_all is_unblank) cut ∙ e
directed_unblank item name false e (inr cut) = ap (list_all is_unblank) cut ∙ both_unblank name (codes ".ascending") e refl

items_unblank : (items : List (List ℕ)) (keys : List SortKey) → AllZip IsSortItem items keys → AllByRecursion IsUnblank items
items_unblank [] [] each = tt
items_unblank [] (key ∷ keys) each = absurd each
items_unblank (item ∷ items) [] each = absurd each
items_unblank (item ∷ items) (key ∷ keys) each = (directed_unblank item key.name key.descending (name_unblank key.name each.0.named) each.0.directed, items_unblank items keys each.1)

names_unblank : (names : List (List ℕ)) → AllByRecursion (λ name. is_name name ≡ true) names → AllByRecursion IsUnblank names
names_unblank names all = each_weaker (λ name. is_name name ≡ true) IsUnblank name_unblank names all

values_unblank : (attribute : List ℕ) (names : List (List ℕ)) → WritesValues attribute names → IsUnblank attribute
values_unblank attribute names is =
    value_unblank OfValues attribute is.head is.value is.has (cut_unblank is.value names is.cut (names_unblank names (recursion_from_All (λ name. is_name name ≡ true) names is.named)))

key_unblank : (item : List ℕ) → IsKey item → IsUnblank item
key_unblank item is =
    ap (list_all is_unblank) is.2.cut.cut ∙ both_unblank is.0 is.2.suffix (name_unblank is.0 is.2.named) (suffix_unblank is.1 is.2.suffix is.2.modifies)

keys_unblank : (attribute : List ℕ) (items : List (List ℕ)) → WritesKeys attribute items → IsUnblank attribute
keys_unblank attribute items is =
    value_unblank OfKeys attribute is.head is.value is.has (cut_unblank is.value items is.cut (each_weaker IsKey IsUnblank key_unblank items (recursion_from_All IsKey items is.each)))

word_unblank : (action : Action) (attribute : List ℕ) → IsWordFor action attribute → IsUnblank attribute
word_unblank Attach attribute e = absurd e
word_unblank Pause attribute e = ap (list_all is_unblank) e
word_unblank Continue attribute (inl e) = ap (list_all is_unblank) e
word_unblank Continue attribute (inr e) = ap (list_all is_unblank) e
word_unblank Clear attribute e = ap (list_all is_unblank) e

attribute_unblank : (attribute : List ℕ) (setting : Setting) → Writes attribute setting → IsUnblank attribute
attribute_unblank attribute (Keys items) is = keys_unblank attribute items is
attribute_unblank attribute (Values names) is = values_unblank attribute names is
attribute_unblank attribute (Sort keys) is = value_unblank OfSort attribute is.head is.value is.has (cut_unblank is.value is.items is.cut (items_unblank is.items keys is.each))
attribute_unblank attribute (Size entries) is = value_unblank OfSize attribute is.head is.digits is.has (number_unblank is.digits entries is.number)
attribute_unblank attribute (Name name) is = value_unblank OfName attribute is.head name is.has (name_unblank name is.named)
attribute_unblank attribute (Asks action) is = word_unblank action attribute is

all_unblank : (attributes : List (List ℕ)) (settings : List Setting) → AllZip Writes attributes settings → AllByRecursion IsUnblank attributes
all_unblank [] [] each = tt
all_unblank [] (setting ∷ settings) each = absurd each
all_unblank (attribute ∷ attributes) [] each = absurd each
all_unblank (attribute ∷ attributes) (setting ∷ settings) each = (attribute_unblank attribute setting each.0, all_unblank attributes settings each.1)

pub written_passes : (word : List ℕ) (attributes : List (List ℕ)) (settings : List Setting) → IsCut 58 word attributes → AllZip Writes attributes settings → AllPass is_unblank word
written_passes word attributes settings cut each =
    AllPass-from_list_all is_unblank word (ap (list_all is_unblank) cut.whole ∙ joined_unblank 58 refl attributes (all_unblank attributes settings each))

-- ---- attributes that are written are read, and the other way round

located_read : (at : ℕ) (attributes : List (List ℕ)) (settings : List Setting) → AllZip Writes attributes settings → AllZip IsRead (map attribute_of (located at attributes)) settings
located_read at [] [] each = tt
located_read at [] (setting ∷ settings) each = absurd each
located_read at (attribute ∷ attributes) [] each = absurd each
located_read at (attribute ∷ attributes) (setting ∷ settings) each = (written_is_read at attribute setting each.0, located_read (at + 1 + length attribute) attributes settings each.1)

pub attributes_read : (at : ℕ) (word : List ℕ) (attributes : List (List ℕ)) (settings : List Setting) → IsCut 58 word attributes → AllZip Writes attributes settings → AllZip IsRead (attributes_at at word) settings
attributes_read at word attributes settings cut each =
    subst (λ (pieces : List ListItem). AllZip IsRead (map attribute_of pieces) settings) (sym (cut_pieces 58 at word attributes cut)) (located_read at attributes settings each)

pieces_written : (pieces : List ListItem) (settings : List Setting) → AllZip IsRead (map attribute_of pieces) settings → AllZip Writes (names_of pieces) settings
pieces_written [] [] each = tt
pieces_written [] (setting ∷ settings) each = absurd each
pieces_written (piece ∷ pieces) [] each = absurd each
pieces_written (piece ∷ pieces) (setting ∷ settings) each = (read_is_written piece.at piece.bytes setting each.0, pieces_written pieces settings each.1)

pub attributes_written : (at : ℕ) (word : List ℕ) (settings : List Setting) → AllZip IsRead (attributes_at at word) settings → AllZip Writes (names_of (pieces_of 58 at word)) settings
attributes_written at word settings each = pieces_written (pieces_of 58 at word) settings each
