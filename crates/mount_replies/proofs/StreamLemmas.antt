-- Lines that are events: one of them, those that end in a write, and what a write of them comes to.
use Rattle.std.proofs.Common.{◌≡◌, ℕ, pos, ◌+◌, ◌-◌, ◌%◌, ◌^◌, ◌<◌, ◌≤◌, true, false, nat_lt, List, [], ◌∷◌, ◌++◌, length, take, drop, Option, Some, None, Result, Ok, Err, Bor, refl, sym, ap, subst, ◌∙◌, inl, inr, arith, append-nil, length-drop, length-take, take_all}
use Rattle.std.proofs.lemmas.Bool.{lt-ltb}
use Rattle.std.proofs.lemmas.Bool.Decides.{nat_tests}
use Rattle.std.specs.List.{position, slice_get}
use Rattle.std.specs.Option.{option_to_list}
use Rattle.trace_command.specs.Requests.{Request, Emission}
use Rattle.trace_command.specs.declared.command.Reply.{Reply as Answer}
use Rattle.trace_command.specs.declared.refusal.Refusal.{Refusal}
use Rattle.trace_command.specs.declared.refusal.Refusal.TheVariants.{Memory}
use Rattle.trace_format.specs.Definitions.{Definition}
use Rattle.trace_format.specs.declared.pair.Pair.{Pair}
use Rattle.tracer_specification.specs.Settings.{declared_events}
use Rattle.mount_replies.specs.Injections.{left_out, pairs_of_line}
use Rattle.mount_replies.specs.Lines.{asked_by_line, asked_by_pairs, is_blank_line, is_newline, last_piece, most_kept, pieces_of, stream_lines}
use Rattle.mount_replies.specs.Mounted.{HasLedTo, IsAsked, IsLineRun, IsQuiet, IsRun, MountSeen, all_done, stopped_at, terms_of}
use Rattle.mount_replies.specs.Services.{Terms}
use Rattle.mount_replies.specs.Steps.{Asking, AsksFor, AsksNothing, IsTooLong, IsWrongLine, LineAsked, Ran}
use Rattle.mount_replies.specs.declared.fault.LineFault.{LineFault}
use Rattle.mount_replies.specs.declared.fault.LineFault.TheVariants.{NoCommand, Refused, TooLong}
use Rattle.mount_replies.specs.private.LineRuns.{DoesInjection, InjectsTo, IsEventDone, IsKept, IsLineStopped}
use Rattle.mount_replies.proofs.CommandLemmas.{kept-more, kept-none}
use Rattle.mount_replies.proofs.PieceLemmas.{found, last-of-two, none-found, some-piece}

-- ---- what is asked for a line

pub blank-asks : (cpus pid : ℕ) (event : Definition) (line : List ℕ) → is_blank_line line ≡ true → asked_by_line cpus pid event line ≡ AsksNothing
blank-asks cpus pid event line blank = rw blank refl

pub other-asks : (cpus pid : ℕ) (event : Definition) (line : List ℕ) → is_blank_line line ≡ false
    → asked_by_line cpus pid event line ≡ asked_by_pairs cpus pid event (pairs_of_line line)
other-asks cpus pid event line some = rw some refl

-- the event of a line is the one that is asked
pub asks-same : (past : List Request) (old new : MountSeen) (asking other : Asking) (result : Result (Unit {0}) LineFault) → other ≡ asking
    → DoesInjection past old new asking result → DoesInjection past old new other result
asks-same past old new asking other result same does = subst (λ (a : Asking). DoesInjection past old new a result) (sym same) does

pub pairs-injected : (cpus own_cpus pid : ℕ) (event own : Definition) (pairs all : List Pair) (name : List ℕ) → cpus ≡ own_cpus → event ≡ own → name ≡ event.name
    → all ≡ pairs ++ left_out pairs event.fields → asked_by_pairs own_cpus pid own (Some pairs) ≡ AsksFor (Emission name (pid % cpus) (pos (pid % 2 ^ 31)) all)
pairs-injected cpus own_cpus pid event own pairs all name cpus_are same named are = rw (named, are, same, cpus_are) refl

pub same-event : (event own : Definition) (seen : Option Definition) → Some event ≡ seen → seen ≡ Some own → event ≡ own
same-event event own seen is there = cc

-- ---- one line

-- a blank one
pub blank-done : (past : List Request) (old : MountSeen) (asking : Asking) → HasLedTo past old → asking ≡ AsksNothing → IsEventDone past old old asking
blank-done past old asking mounted is = record {
  is = record {
    after = past;
    mounted = mounted;
    kept = kept-none old;
    runs = λ done line lines ran asks rest.
        subst (λ (a : Asking). IsLineRun (terms_of old) past done line.text (λ (now : List Request). IsRun (terms_of old) now line.end lines ran) ran a)
        (sym (asks ∙ is)) rest;
  };
  declared = refl;
}

-- its event was made
pub event-done : (past : List Request) (old new : MountSeen) (request : Request) (asking : Asking) (answer : Answer)
    → IsAsked past old new request (Ok answer) → IsQuiet request → asking ≡ AsksFor request → IsEventDone past old new asking
event-done past old new request asking answer asked quiet is = record {
  is = record {
    after = request ∷ past;
    mounted = asked.mounted;
    kept = record { terms = asked.terms; files = asked.files; parked = asked.parked; errors = asked.errors; counted = asked.counted };
    runs = λ done line lines ran asks rest.
        subst (λ (a : Asking). IsLineRun (terms_of old) past done line.text (λ (now : List Request). IsRun (terms_of old) now line.end lines ran) ran a)
        (sym (asks ∙ is)) (Ok answer, inl asked.answered, rest);
  };
  declared = ap (λ (d : Option Definition). declared_events past ++ option_to_list d) quiet.declares_none ∙ append-nil (declared_events past);
}

-- or was refused
pub event-refused : (past : List Request) (old new : MountSeen) (request : Request) (asking : Asking) (refusal : Refusal)
    → IsAsked past old new request (Err refusal) → asking ≡ AsksFor request → IsLineStopped past old new asking (Refused refusal)
event-refused past old new request asking refusal asked is = record {
  mounted = asked.mounted;
  kept = record { terms = asked.terms; files = asked.files; parked = asked.parked; errors = asked.errors; counted = asked.counted };
  runs = λ done line lines asks.
      subst (λ (a : Asking). IsLineRun (terms_of old) past done line.text
      (λ (now : List Request). IsRun (terms_of old) now line.end lines (stopped_at past done line.text (Refused refusal)))
      (stopped_at past done line.text (Refused refusal)) a)
      (sym (asks ∙ is)) (Err refusal, inl asked.answered, refl);
}

-- it is no event
pub wrong-line : (past : List Request) (old : MountSeen) (asking : Asking) → HasLedTo past old → asking ≡ IsWrongLine
    → IsLineStopped past old old asking NoCommand
wrong-line past old asking mounted is = record {
  mounted = mounted;
  kept = kept-none old;
  runs = λ done line lines asks.
      subst (λ (a : Asking). IsLineRun (terms_of old) past done line.text
      (λ (now : List Request). IsRun (terms_of old) now line.end lines (stopped_at past done line.text NoCommand)) (stopped_at past done line.text NoCommand) a)
      (sym (asks ∙ is)) (inl refl);
}

-- memory for its command was refused
pub memory-line : (past : List Request) (old : MountSeen) (cpus pid : ℕ) (event : Definition) (pairs : Option (List Pair)) (asking : Asking)
    → HasLedTo past old → asking ≡ asked_by_pairs cpus pid event pairs → IsLineStopped past old old asking (Refused Memory)
memory-line past old cpus pid event None asking mounted is = record {
  mounted = mounted;
  kept = kept-none old;
  runs = λ done line lines asks.
      subst (λ (a : Asking). IsLineRun (terms_of old) past done line.text
      (λ (now : List Request). IsRun (terms_of old) now line.end lines (stopped_at past done line.text (Refused Memory)))
      (stopped_at past done line.text (Refused Memory)) a)
      (sym (asks ∙ is)) (inr refl);
}
memory-line past old cpus pid event (Some pairs) asking mounted is = record {
  mounted = mounted;
  kept = kept-none old;
  runs = λ done line lines asks.
      subst (λ (a : Asking). IsLineRun (terms_of old) past done line.text
      (λ (now : List Request). IsRun (terms_of old) now line.end lines (stopped_at past done line.text (Refused Memory)))
      (stopped_at past done line.text (Refused Memory)) a)
      (sym (asks ∙ is)) (Err Memory, inl (record { reply = λ other. absurd (other refl); takes_none = λ none. absurd none }), refl);
}

-- a call that did not fail
pub done-of : (past : List Request) (old new : MountSeen) (asking : Asking) (result : Result (Unit {0}) LineFault) → ((fault : LineFault) → result ≡ Err fault → ⊥)
    → DoesInjection past old new asking result → IsEventDone past old new asking
done-of past old new asking (Ok done) well did = did
done-of past old new asking (Err fault) well did = absurd (well fault refl)

-- ---- one line that is all there is

-- ---- lines of a stream

-- those before `from` were done, and what the rest come to, after the bytes that are done, is what all come to
pub record StreamsSoFar (past : List Request) (old new : MountSeen) (asking : List ℕ → Asking) (kept size from done : ℕ) (rest bytes : List ℕ) : Type 0 where
  pub after : List Request
  pub mounted : HasLedTo after new
  pub same : IsKept old new
  pub declared : declared_events after ≡ declared_events past
  pub runs : (ran : Ran) → IsRun (terms_of old) after done (stream_lines asking kept size from (pieces_of rest)) ran
      → IsRun (terms_of old) past 0 (stream_lines asking kept size 0 (pieces_of bytes)) ran

pub stream-begun : (past : List Request) (old : MountSeen) (asking : List ℕ → Asking) (kept size : ℕ) (bytes : List ℕ) → HasLedTo past old
    → StreamsSoFar past old old asking kept size 0 0 bytes bytes
stream-begun past old asking kept size bytes mounted =
    record { after = past; mounted = mounted; same = kept-none old; declared = refl; runs = λ ran rest. rest }

more-lines : (asking : List ℕ → Asking) (kept size start : ℕ) (line : List ℕ) (pieces : List (List ℕ)) → 0 < length pieces
    → stream_lines asking kept size start (line ∷ pieces)
    ≡ record { text = line; asking = asking line; end = start + length line + 1 - kept } ∷ stream_lines asking kept size (start + length line + 1) pieces
unfolding stream_lines
more-lines asking kept size start line [] some = absurd (omega arith)
more-lines asking kept size start line (next ∷ more) some = refl

-- the line up to the first newline is the first one
lines-at : (asking : List ℕ → Asking) (kept size from next at : ℕ) (rest : List ℕ) → Some at ≡ position is_newline rest → next ≡ from + (at + 1)
    → stream_lines asking kept size from (pieces_of rest)
    ≡ record { text = take at rest; asking = asking (take at rest); end = next - kept }
    ∷ stream_lines asking kept size next (pieces_of (drop (at + 1) rest))
lines-at asking kept size from next at rest is more =
    let first = found rest at is in
    let within : at < length rest = first.0 in
    let long : from + length (take at rest) + 1 ≡ next = simp length-take (omega arith) in
    ap (stream_lines asking kept size from) first.1
    ∙ more-lines asking kept size from (take at rest) (pieces_of (drop (at + 1) rest)) (some-piece (drop (at + 1) rest))
    ∙ ap (λ (n : ℕ). record { text = take at rest; asking = asking (take at rest); end = n - kept } ∷ stream_lines asking kept size n (pieces_of (drop (at + 1) rest))) long

-- what a call does that does a line, in the words of the beginning
pub one-line : (past : List Request) (old mid new : MountSeen) (event pid : ℕ) (own : Definition) (kept size from next done now at : ℕ) (rest bytes : List ℕ)
    → StreamsSoFar past old mid (asked_by_line old.live.config.cpus pid own) kept size from done rest bytes
    → slice_get (declared_events past) event ≡ Some own → Some at ≡ position is_newline rest → next ≡ from + (at + 1) → now ≡ next - kept
    → ((before : List Request) (is : Definition) → HasLedTo before mid → slice_get (declared_events before) event ≡ Some is
    → IsEventDone before mid new (asked_by_line mid.live.config.cpus pid is (take at rest)))
    → StreamsSoFar past old new (asked_by_line old.live.config.cpus pid own) kept size next now (drop (at + 1) rest) bytes
one-line past old mid new event pid own kept size from next done now at rest bytes so_far is newline more ends did =
    let asking = asked_by_line old.live.config.cpus pid own in
    let line : LineAsked = record { text = take at rest; asking = asking (take at rest); end = next - kept } in
    let done_so : IsEventDone so_far.after mid new (asking (take at rest)) =
    subst (λ (g : Terms). IsEventDone so_far.after mid new (asked_by_line g.config.cpus pid own (take at rest))) so_far.same.terms
    (did so_far.after own so_far.mounted (ap (λ (l : List Definition). slice_get l event) so_far.declared ∙ is)) in
    record {
      after = done_so.is.after;
      mounted = done_so.is.mounted;
      same = kept-more old mid new so_far.same done_so.is.kept;
      declared = done_so.declared ∙ so_far.declared;
      runs = λ ran others. so_far.runs ran
          (subst (λ (l : List LineAsked). IsRun (terms_of old) so_far.after done l ran) (sym (lines-at asking kept size from next at rest newline more))
          (subst (λ (g : Terms). IsRun g so_far.after done (line ∷ stream_lines asking kept size next (pieces_of (drop (at + 1) rest))) ran) so_far.same.terms
          (done_so.is.runs done line (stream_lines asking kept size next (pieces_of (drop (at + 1) rest))) ran refl
          (subst (λ (g : Terms). IsRun g done_so.is.after (next - kept) (stream_lines asking kept size next (pieces_of (drop (at + 1) rest))) ran) (sym so_far.same.terms)
          (subst (λ (n : ℕ). IsRun (terms_of old) done_so.is.after n (stream_lines asking kept size next (pieces_of (drop (at + 1) rest))) ran) ends others)))));
    }

-- what follows a newline
pub rest-is : (n : ℕ) (rest : List ℕ) → take (length rest - n) (drop n rest) ≡ drop n rest
rest-is n rest = take_all (length rest - n) (drop n rest) (omega (arith, length-drop n rest))

pub still-together : (from at all : ℕ) (rest : List ℕ) → at < length rest → from + length rest ≡ all
    → (from + (at + 1)) + length (take (length rest - (at + 1)) (drop (at + 1) rest)) ≡ all
still-together from at all rest within together = rw (rest-is (at + 1) rest) (omega (arith, length-drop (at + 1) rest))

-- no newline was found
pub none-of : (at : Option ℕ) (place : Option ℕ) → at ≡ place → ((n : ℕ) → at ≡ Some n → ⊥) → None ≡ place
none-of None place is none = is
none-of (Some n) place is none = absurd (none n refl)

-- a line was not done
pub stream-stopped : (past : List Request) (old mid new : MountSeen) (event pid : ℕ) (own : Definition) (kept size from done at : ℕ) (rest bytes : List ℕ) (line : Bor (List ℕ))
    (fault : LineFault) → StreamsSoFar past old mid (asked_by_line old.live.config.cpus pid own) kept size from done rest bytes
    → slice_get (declared_events past) event ≡ Some own → Some at ≡ position is_newline rest → line.now ≡ take at rest
    → ((before : List Request) (is : Definition) → HasLedTo before mid → slice_get (declared_events before) event ≡ Some is
    → IsLineStopped before mid new (asked_by_line mid.live.config.cpus pid is line.now) fault)
    → InjectsTo past old new (stream_lines (asked_by_line old.live.config.cpus pid own) kept size 0 (pieces_of bytes))
    (record { done = done; stop = Some (record { line = line; fault = fault }) })
stream-stopped past old mid new event pid own kept size from done at rest bytes line fault so_far is newline same did =
    let asking = asked_by_line old.live.config.cpus pid own in
    let next = from + (at + 1) in
    let others = stream_lines asking kept size next (pieces_of (drop (at + 1) rest)) in
    let first : LineAsked = record { text = line.now; asking = asking line.now; end = next - kept } in
    let ran : Ran = stopped_at so_far.after done line.now fault in
    let stopped : IsLineStopped so_far.after mid new (asking line.now) fault =
    subst (λ (g : Terms). IsLineStopped so_far.after mid new (asked_by_line g.config.cpus pid own line.now) fault) so_far.same.terms
    (did so_far.after own so_far.mounted (ap (λ (l : List Definition). slice_get l event) so_far.declared ∙ is)) in
    let lines : first ∷ others ≡ stream_lines asking kept size from (pieces_of rest) =
    ap (λ (t : List ℕ). record { text = t; asking = asking t; end = next - kept } ∷ others) same ∙ sym (lines-at asking kept size from next at rest newline refl) in
    record {
      is = record {
        after = so_far.after;
        mounted = stopped.mounted;
        kept = kept-more old mid new so_far.same stopped.kept;
        runs = so_far.runs ran
            (subst (λ (l : List LineAsked). IsRun (terms_of old) so_far.after done l ran) lines
            (subst (λ (g : Terms). IsRun g so_far.after done (first ∷ others) ran) so_far.same.terms (stopped.runs done first others refl)));
      };
      declared = so_far.declared;
    }

-- all that have ended were done
pub stream-ended : (past : List Request) (old new : MountSeen) (asking : List ℕ → Asking) (kept size from done : ℕ) (rest bytes : List ℕ)
    → StreamsSoFar past old new asking kept size from done rest bytes → None ≡ position is_newline rest → length rest ≤ most_kept
    → InjectsTo past old new (stream_lines asking kept size 0 (pieces_of bytes)) (record { done = done; stop = None })
unfolding stream_lines
stream-ended past old new asking kept size from done rest bytes so_far none short =
    let low : nat_lt most_kept (length rest) ≡ false = grind (arith, nat_tests) in
    let lines : stream_lines asking kept size from (pieces_of rest) ≡ [] = ap (stream_lines asking kept size from) (none-found rest none) ∙ rw low refl in
    record {
      is = record {
        after = so_far.after;
        mounted = so_far.mounted;
        kept = so_far.same;
        runs = so_far.runs (all_done so_far.after done)
            (subst (λ (l : List LineAsked). IsRun (terms_of old) so_far.after done l (all_done so_far.after done)) (sym lines) refl);
      };
      declared = so_far.declared;
    }

-- what has not ended is too long
pub stream-too-long : (past : List Request) (old new : MountSeen) (asking : List ℕ → Asking) (kept size from done : ℕ) (line : Bor (List ℕ)) (rest bytes : List ℕ)
    → StreamsSoFar past old new asking kept size from done rest bytes → None ≡ position is_newline rest → line.now ≡ rest → most_kept < length rest
    → InjectsTo past old new (stream_lines asking kept size 0 (pieces_of bytes)) (record { done = done; stop = Some (record { line = line; fault = TooLong }) })
unfolding stream_lines
stream-too-long past old new asking kept size from done line rest bytes so_far none is long =
    let high : nat_lt most_kept (length rest) ≡ true = lt-ltb most_kept (length rest) long in
    let lines : stream_lines asking kept size from (pieces_of rest) ≡ record { text = line.now; asking = IsTooLong; end = size } ∷ [] =
    ap (stream_lines asking kept size from) (none-found rest none) ∙ (rw high (ap (λ (t : List ℕ). record { text = t; asking = IsTooLong; end = size } ∷ []) (sym is))) in
    record {
      is = record {
        after = so_far.after;
        mounted = so_far.mounted;
        kept = so_far.same;
        runs = so_far.runs (stopped_at so_far.after done line.now TooLong)
            (subst (λ (l : List LineAsked). IsRun (terms_of old) so_far.after done l (stopped_at so_far.after done line.now TooLong)) (sym lines) (inl refl));
      };
      declared = so_far.declared;
    }

-- ---- what follows the last newline

pub last-after : (rest : List ℕ) (at : ℕ) → Some at ≡ position is_newline rest → last_piece (pieces_of rest) ≡ last_piece (pieces_of (drop (at + 1) rest))
last-after rest at is =
    ap last_piece (found rest at is).1 ∙ last-of-two (take at rest ∷ []) (pieces_of (drop (at + 1) rest)) (some-piece (drop (at + 1) rest))

pub last-alone : (rest : List ℕ) → None ≡ position is_newline rest → rest ≡ last_piece (pieces_of rest)
last-alone rest none = ap last_piece (sym (none-found rest none))
