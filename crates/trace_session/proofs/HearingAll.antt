-- What a writer has heard of the items of a session.
use Rattle.std.proofs.Common.{◌≡◌, ℕ, zero, suc, ◌+◌, ◌-◌, ◌≤◌, ◌<◌, Bool, true, false, List, [], ◌∷◌, ◌++◌, length, take, drop, map, Option, Some, None, Result, Ok, Err, IsSome, slice_get, refl, ap, sym, subst, ◌∙◌, append_assoc, arith}
use Rattle.std.proofs.lemmas.List.{append-nil, take_at}
use Rattle.std.proofs.lemmas.Option.{slice_get_past}
use Rattle.std.specs.List.{concat, list_any}
use Rattle.std.specs.Io.KnownBytes.{Appends}
use Rattle.trace_command.specs.declared.command.Config.{Config}
use Rattle.script_reader.specs.Items.{Item, Single, first_fault, threads_of, is_end, part_with, before_end, begun, taken_at, item_at, items_from}
use Rattle.script_reader.specs.NextItems.{item_read, HasFaultLine, HasItsText}
use Rattle.script_reader.specs.PartReads.{IsLineAt, commands_in}
use Rattle.script_reader.specs.ScriptLines.{lines_of}
use Rattle.script_reader.specs.declared.item.ItemRead.TheVariants as reads
use Rattle.script_reader.specs.declared.item.ItemRead.{ItemRead}
use Rattle.script_reader.specs.declared.part.FaultAt.{FaultAt}
use Rattle.script_reader.specs.declared.part.Numbered.{Numbered}
use Rattle.trace_script.specs.Lines.{line_of}
use Rattle.trace_script.specs.declared.fault.ScriptFault.{ScriptFault}
use Rattle.trace_script.specs.declared.line.Line.{Line}
use Rattle.trace_script.specs.declared.line.Line.TheVariants.{Blank, Ask, Parallel, Thread, End}
use Rattle.trace_script.specs.declared.outcome.Outcome.{Outcome}
use Rattle.trace_script.specs.declared.outcome.Outcome.TheVariants as outcomes
use Rattle.parallel_output.specs.declared.outcome_at.OutcomeAt.{OutcomeAt}
use Rattle.trace_session.specs.Devices.{Passes}
use Rattle.trace_session.specs.Fronts.{HasGiven}
use Rattle.trace_session.specs.Heard.{Heard, Hears, heard_of, line_at, heard_lines, numbers_in, numbers_told, IsWrittenFirst, HoldsTexts, IsHeard, HearsAll}
use Rattle.trace_session.specs.private.HeardItems.{AreInOrder, heard_each, HearsItem}
use Rattle.trace_session.specs.Parts.{Given, MayGive}
use Rattle.trace_session.specs.PartTexts.{AreOutcomesOf}
use Rattle.trace_session.specs.Sessions.{Progress, turn_of, status_of}
use Rattle.trace_session.specs.declared.status.Status.{Status}
use Rattle.trace_session.proofs.Hearing.{line_is}
use Rattle.trace_session.proofs.PartLines.{has_its_lines}

-- ---- lines

slice_get-drop : {X : Type 0} (n k : ℕ) (xs : List X) → slice_get (drop n xs) k ≡ slice_get xs (n + k)
slice_get-drop {X} zero k xs = let same : k ≡ 0 + k = omega arith in ap (slice_get xs) same
slice_get-drop {X} (suc n) k [] = slice_get_past [] k (omega arith) ∙ sym (slice_get_past [] (suc n + k) (omega arith))
slice_get-drop {X} (suc n) k (x ∷ xs) =
    let same : suc (n + k) ≡ suc n + k = omega arith in
    slice_get-drop n k xs ∙ ap (slice_get (x ∷ xs)) same

-- a line of those that are left is one of all
pub is_line_of_all : (number at : ℕ) (all left : List (List ℕ)) (line : List ℕ) → 1 ≤ number → left ≡ drop (number - 1) all → IsLineAt number left at line
    → IsLineAt 1 all at line
is_line_of_all number at all left line some is (place, same, found) =
    (number - 1 + place, omega (arith, same, some), sym (slice_get-drop (number - 1) place all) ∙ ap (λ (ls : List (List ℕ)). slice_get ls place) (sym is) ∙ found)

-- what is left after some of the lines that are left
drop-nil : {X : Type 0} (n : ℕ) → drop {A = X} n [] ≡ []
drop-nil {X} zero = refl
drop-nil {X} (suc n) = refl

drop-drop : {X : Type 0} (n k : ℕ) (xs : List X) → drop k (drop n xs) ≡ drop (n + k) xs
drop-drop {X} zero k xs = let same : k ≡ 0 + k = omega arith in ap (λ (m : ℕ). drop m xs) same
drop-drop {X} (suc n) k [] = drop-nil k ∙ sym (drop-nil (suc n + k))
drop-drop {X} (suc n) k (x ∷ xs) =
    let same : suc (n + k) ≡ suc n + k = omega arith in
    drop-drop n k xs ∙ ap (λ (m : ℕ). drop m (x ∷ xs)) same

pub left_later : (number next : ℕ) (all left after : List (List ℕ)) → 1 ≤ number → left ≡ drop (number - 1) all → number < next → after ≡ drop (next - number) left
    → after ≡ drop (next - 1) all
left_later number next all left after some is_left later is =
    let same : number - 1 + (next - number) ≡ next - 1 = omega (arith, some, later) in
    is ∙ ap (drop (next - number)) is_left ∙ drop-drop (number - 1) (next - number) all ∙ ap (λ (m : ℕ). drop m all) same

pub left_next : (number : ℕ) (all left : List (List ℕ)) (line : List ℕ) (lines : List (List ℕ)) → 1 ≤ number → left ≡ drop (number - 1) all → left ≡ line ∷ lines
    → lines ≡ drop (number + 1 - 1) all
left_next number all left line lines some is_left is =
    let one : number + 1 - number ≡ 1 = omega arith in
    left_later number (number + 1) all left lines some is_left (omega arith) (ap (drop 1) (sym is) ∙ ap (λ (m : ℕ). drop m left) (sym one))

-- the line that is an item by itself
module _ (number at : ℕ) (first line : List ℕ) (lines : List (List ℕ)) where
  of_part : (fault : Option FaultAt) (threads : List (List Numbered)) → part_with fault threads ≡ Single at line → IsLineAt number (first ∷ lines) at line
  of_part (Some fault) threads is = absurd (cc)
  of_part None threads is = absurd (cc)

  of_line : Single number first ≡ Single at line → IsLineAt number (first ∷ lines) at line
  of_line is =
      let same : number ≡ at = cc in
      let same_line : first ≡ line = cc in
      (0, omega (arith, same), ap (λ (l : List ℕ). Some l) same_line)

  of_begun : (ended : Bool) → (begun number first ended (before_end lines)).item ≡ Single at line → IsLineAt number (first ∷ lines) at line
  of_begun true is = of_part (first_fault (number + 1) 0 (before_end lines)) (threads_of (number + 1) (before_end lines)) is
  of_begun false is = of_line is

  of_taken : (read : Result Line ScriptFault) → (taken_at number first read lines).item ≡ Single at line → IsLineAt number (first ∷ lines) at line
  of_taken (Ok Blank) is = of_line is
  of_taken (Ok (Ask command)) is = of_line is
  of_taken (Ok Parallel) is = of_begun (list_any is_end lines) is
  of_taken (Ok Thread) is = of_line is
  of_taken (Ok End) is = of_line is
  of_taken (Err fault) is = of_line is

  of_item : (item_at number first lines).item ≡ Single at line → IsLineAt number (first ∷ lines) at line
  unfolding item_at
  of_item is = of_taken (line_of first) is

single_line : (number at : ℕ) (lines : List (List ℕ)) (line : List ℕ) (rest : List Item) → items_from number 0 lines ≡ Single at line ∷ rest → IsLineAt number lines at line
single_line number at [] line rest is = absurd (cc)
single_line number at (first ∷ lines) line rest is = of_item number at first line lines (cc)

-- lines with these numbers, as they are numbered here and there
same_lines : (from first first' : ℕ) (lines lines' : List (List ℕ)) (held : Option (List ℕ)) (numbers : List ℕ) (outcomes : List (Option Outcome))
    → AreInOrder from first lines numbers → ((at : ℕ) (line : List ℕ) → IsLineAt first lines at line → IsLineAt first' lines' at line)
    → heard_lines first lines held numbers outcomes ≡ heard_lines first' lines' held numbers outcomes
same_lines from first first' lines lines' held [] outcomes order lifts = refl
same_lines from first first' lines lines' held (number ∷ numbers) [] order lifts = refl
same_lines from first first' lines lines' held (number ∷ numbers) (outcome ∷ outcomes) (above, (line, at), order) lifts =
    let here : line_at first lines number ≡ line_at first' lines' number = line_is first number lines line at ∙ sym (line_is first' number lines' line (lifts number line at)) in
    ap (λ (l : List ℕ). heard_of number l outcome held ∷ heard_lines first lines held numbers outcomes) here
    ∙ ap (λ (rest : List Heard). heard_of number (line_at first' lines' number) outcome held ∷ rest) (same_lines number first first' lines lines' held numbers outcomes order lifts)

-- what is heard of each command of a part
each_is : (first : ℕ) (lines : List (List ℕ)) (held : Option (List ℕ)) (told : List OutcomeAt)
    → heard_each first lines held told ≡ heard_lines first lines held (map (λ (one : OutcomeAt). one.number) told) (map (λ (one : OutcomeAt). Some one.outcome) told)
each_is first lines held [] = refl
each_is first lines held (one ∷ told) =
    ap (λ (rest : List Heard). heard_of one.number (line_at first lines one.number) (Some one.outcome) held ∷ rest) (each_is first lines held told)

pub each_of_threads : (first : ℕ) (lines : List (List ℕ)) (held : Option (List ℕ)) (threads : List (List Numbered)) (became : List (Option Outcome)) (told : List OutcomeAt)
    → AreOutcomesOf threads became told → heard_each first lines held told ≡ heard_lines first lines held (numbers_in threads) became
each_of_threads first lines held threads became told are =
    each_is first lines held told
    ∙ ap (λ (numbers : List ℕ). heard_lines first lines held numbers (map (λ (one : OutcomeAt). Some one.outcome) told)) are.numbers
    ∙ ap (λ (os : List (Option Outcome)). heard_lines first lines held (numbers_in threads) os) are.outcomes

-- ---- an item among those of the script

-- of one line
pub line_heard_in_all : (number : ℕ) (all : List (List ℕ)) (line : List ℕ) (outcome : Option Outcome) (outcomes : List (Option Outcome)) (held : Option (List ℕ))
    (old new : Option (List Heard)) → IsLineAt 1 all number line → outcomes ≡ outcome ∷ [] → Hears old new (heard_of number line outcome held ∷ [])
    → Hears old new (heard_lines 1 all held (number ∷ []) outcomes)
line_heard_in_all number all line outcome outcomes held old new at is heard =
    subst (λ (os : List (Option Outcome)). Hears old new (heard_lines 1 all held (number ∷ []) os)) (sym is)
    (subst (λ (l : List ℕ). Hears old new (heard_of number l outcome held ∷ [])) (sym (line_is 1 number all line at)) heard)

module _ (g : Config) (number : ℕ) (all left : List (List ℕ)) (some : 1 ≤ number) (is_left : left ≡ drop (number - 1) all) (before after : Progress) (given : Given)
    (held : Option (List ℕ)) (old new : Option (List Heard)) where
  lifts : (at : ℕ) (line : List ℕ) → IsLineAt number left at line → IsLineAt 1 all at line
  lifts at line is = is_line_of_all number at all left line some is_left is

  -- an emission by itself
  pub emission_heard : (line : List ℕ) (lines : List (List ℕ)) → left ≡ line ∷ lines → MayGive g (Single number line) before after given
      → Hears old new (heard_of number line (turn_of g before line).outcome held ∷ []) → Hears old new (heard_lines 1 all held (number ∷ []) given.outcomes)
  emission_heard line lines is may heard =
      let at : IsLineAt number left number line = (0, omega arith, ap (λ (ls : List (List ℕ)). slice_get ls 0) is) in
      line_heard_in_all number all line (turn_of g before line).outcome given.outcomes held old new (lifts number line at)
      (ap (λ (one : Given). one.outcomes) may.0) heard

pub item_heard : (g : Config) (number : ℕ) (all : List (List ℕ)) (text : List ℕ) (item : ItemRead) (rest : List Item) (before after : Progress) (given : Given)
    (held : Option (List ℕ)) (old new : Option (List Heard)) → 1 ≤ number → lines_of text ≡ drop (number - 1) all
    → items_from number 0 (lines_of text) ≡ item_read number item ∷ rest → HasItsText text item → HasFaultLine number (lines_of text) item
    → MayGive g (item_read number item) before after given → HearsItem g number item before given held old new
    → Hears old new (heard_lines 1 all held (numbers_told (item_read number item)) given.outcomes)
item_heard g number all text (reads.Line line said) rest before after given held old new some is_left read its_text its_line may heard =
    line_heard_in_all number all line.now (turn_of g before line.now).outcome given.outcomes held old new
    (is_line_of_all number number all (lines_of text) line.now some is_left (single_line number number (lines_of text) line.now rest read))
    (ap (λ (one : Given). one.outcomes) may.0) heard
item_heard g number all text (reads.Threads own threads) rest before after given held old new some is_left read its_text its_line may heard =
    let numbers : List ℕ = numbers_in (commands_in threads.items) in
    let order : AreInOrder number number (lines_of own.now) numbers = has_its_lines number text (reads.Threads own threads) rest read its_text in
    let own_left : lines_of own.now ≡ drop (number - 1) all = ap lines_of its_text ∙ is_left in
    subst (λ (more : List Heard). Hears old new more)
    (same_lines number number 1 (lines_of own.now) all held numbers given.outcomes order
    (λ at line is. is_line_of_all number at all (lines_of own.now) line some own_left is)) heard
item_heard g number all text (reads.Fault at line) rest before after given held old new some is_left read its_text its_line may heard =
    line_heard_in_all at.number all line.now (Some (outcomes.Fault at.fault)) given.outcomes held old new
    (is_line_of_all number at.number all (lines_of text) line.now some is_left its_line)
    (ap (λ (one : Given). one.outcomes) may.0) heard

-- ---- the items of a session

-- what is held after an item is a front of all texts, and all of them where nothing waits
pub holds : (wants : Bool) (old held : Option (List ℕ)) (waits texts : List ℕ) (status : Status) → Passes old [] held waits texts
    → (IsWrittenFirst wants status → waits ≡ []) → HoldsTexts wants old held texts status
holds wants old held waits texts status (front, is, appends) none = (
  (front, waits, is, appends),
  λ not.
      let all : texts ≡ front = is ∙ ap (λ (more : List ℕ). front ++ more) (none not) ∙ append-nil front in
      subst (λ (text : List ℕ). Appends old held text) (sym all) appends,
)

module _ (wants : Bool) (script : List ℕ) (old : Option (List ℕ)) where
  abbrev texts_in : List Given → List ℕ
  texts_in given = concat (map (λ (one : Given). one.text) given)

  none_heard : (texts : List ℕ) (items : List Item) → IsHeard wants script old texts items [] []
  none_heard texts [] = refl
  none_heard texts (item ∷ items) = refl

  -- one item more
  heard_more : (g : Config) (items rest : List Item) (given : List Given) (before now : Progress) (item : Item) (one : Given) (texts : List ℕ) (heard : List Heard)
      (held : Option (List ℕ)) → HasGiven g before items given now → IsHeard wants script old texts items given heard
      → HoldsTexts wants old held ((texts ++ texts_in given) ++ one.text) (status_of one.outcomes)
      → IsHeard wants script old texts (items ++ item ∷ rest) (given ++ one ∷ []) (heard ++ heard_lines 1 (lines_of script) held (numbers_told item) one.outcomes)
  heard_more g [] rest [] before now item one texts heard held has is holds =
      let more : List Heard = heard_lines 1 (lines_of script) held (numbers_told item) one.outcomes in (
        held,
        [],
        ap (λ (h : List Heard). h ++ more) is ∙ sym (append-nil more),
        subst (λ (t : List ℕ). HoldsTexts wants old held (t ++ one.text) (status_of one.outcomes)) (append-nil texts) holds,
        none_heard (texts ++ one.text) rest,
      )
  heard_more g [] rest (other ∷ given) before now item one texts heard held has is holds = absurd has
  heard_more g (first ∷ items) rest [] before now item one texts heard held has is holds = absurd has
  heard_more g (first ∷ items) rest (other ∷ given) before now item one texts heard held (next, may, on, has) (mid, later, is, holds_first, is_later) holds =
      let more : List Heard = heard_lines 1 (lines_of script) held (numbers_told item) one.outcomes in
      let own : List Heard = heard_lines 1 (lines_of script) mid (numbers_told first) other.outcomes in (
        mid,
        later ++ more,
        ap (λ (h : List Heard). h ++ more) is ∙ append_assoc own later more,
        holds_first,
        heard_more g items rest given next now item one (texts ++ other.text) later held has is_later
            (subst (λ (t : List ℕ). HoldsTexts wants old held (t ++ one.text) (status_of one.outcomes)) (sym (append_assoc texts other.text (texts_in given))) holds),
      )

  -- later items gave nothing
  heard_front : (g : Config) (items rest : List Item) (given : List Given) (before now : Progress) (texts : List ℕ) (heard : List Heard) → HasGiven g before items given now
      → IsHeard wants script old texts items given heard → IsHeard wants script old texts (items ++ rest) given heard
  heard_front g [] [] [] before now texts heard has is = is
  heard_front g [] (item ∷ rest) [] before now texts heard has is = is
  heard_front g [] rest (one ∷ given) before now texts heard has is = absurd has
  heard_front g (first ∷ items) rest [] before now texts heard has is = absurd has
  heard_front g (first ∷ items) rest (one ∷ given) before now texts heard (next, may, on, has) (held, later, same, holds_first, is_later) =
      (held, later, same, holds_first, heard_front g items rest given next now (texts ++ one.text) later has is_later)

  pub hears_none : (items : List Item) (heard : Option (List Heard)) → HearsAll wants script old items [] heard heard
  hears_none items None = tt
  hears_none items (Some heard) = ([], sym (append-nil heard), none_heard [] items)

  pub hears_more : (g : Config) (items rest : List Item) (given : List Given) (before now : Progress) (item : Item) (one : Given) (held : Option (List ℕ))
      (first mid new : Option (List Heard)) → HasGiven g before items given now → HearsAll wants script old items given first mid
      → Hears mid new (heard_lines 1 (lines_of script) held (numbers_told item) one.outcomes)
      → (IsSome mid → HoldsTexts wants old held (texts_in given ++ one.text) (status_of one.outcomes))
      → HearsAll wants script old (items ++ item ∷ rest) (given ++ one ∷ []) first new
  hears_more g items rest given before now item one held None mid new has so_far next holds = tt
  hears_more g items rest given before now item one held (Some first) None new has so_far next holds = absurd so_far
  hears_more g items rest given before now item one held (Some first) (Some mid) None has so_far next holds = absurd next
  hears_more g items rest given before now item one held (Some first) (Some mid) (Some new) has (more, is, heard) next holds =
      let own : List Heard = heard_lines 1 (lines_of script) held (numbers_told item) one.outcomes in (
        more ++ own,
        next ∙ ap (λ (h : List Heard). h ++ own) is ∙ append_assoc first more own,
        heard_more g items rest given before now item one [] more held has heard (holds refl),
      )

  pub hears_front : (g : Config) (items rest : List Item) (given : List Given) (before now : Progress) (first mid : Option (List Heard)) → HasGiven g before items given now
      → HearsAll wants script old items given first mid → HearsAll wants script old (items ++ rest) given first mid
  hears_front g items rest given before now None mid has heard = tt
  hears_front g items rest given before now (Some first) None has heard = absurd heard
  hears_front g items rest given before now (Some first) (Some mid) has (more, is, heard) =
      (more, is, heard_front g items rest given before now [] more has heard)

-- of what was given, one item more was not heard of
pub first_given : (given : List Given) (more : List Given) → take (length given) (given ++ more) ≡ given
first_given given more = take_at given more (length given) refl

pub all_given : (given : List Given) → take (length given) given ≡ given
all_given given = ap (take (length given)) (sym (append-nil given)) ∙ first_given given []
