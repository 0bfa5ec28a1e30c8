use Rattle.std.proofs.Common.{◌≡◌, ◌≢◌, inr, Option, None, Some, ◌∷◌, ◌++◌, ℕ, ◌+◌, ◌<◌, true, [], map, length, vec_len, vec_capacity, List, refl, sym, ap, ◌∙◌, arith, rules}
use Rattle.std.proofs.lemmas.List.{length-map, length_push}
use Rattle.ticket_lock.specs.Calls.{view_of, IsOf, AreHalves}
use Rattle.ticket_lock.specs.declared.views.View.{View}
use Rattle.trace_workers.specs.BlockRuns.{commands_of}
use Rattle.trace_workers.specs.Gates.{StopsOne}
use Rattle.trace_workers.specs.declared.fault.BlockFault.{BlockFault}
use Rattle.trace_workers.specs.PartRuns.{HasAsked, IsGated, begun_trail, begun_trails}
use Rattle.trace_command.specs.Commands.{Command}
use Rattle.trace_command.specs.declared.command.Entry.{Entry}
use Rattle.trace_workers.specs.declared.fault.BlockFault.TheVariants.{Stopped}
use Rattle.trace_workers.proofs.Gating.{gated_whole, pass_push, begun_pass_none, begun_pass_push, stops_before, stops_last, stopped_early, ends_as, end_push, told_push}
use Rattle.trace_workers.proofs.Joining.{run_meet}
use Rattle.trace_workers.proofs.Working.{run_none}
use Rattle.trace_workers.proofs.Blocking.{names_left, map_push, begun_none, begun_push, length-begun, whole_push, told_none}
use Rattle.trace_workers.proofs.block.+run_parts.Goals as goal
use Rattle.trace_workers.proofs.block.+run_parts.Goals.{in-Ok-started, in-Err, After-push_reserved}

-- the halves still meet where the names of each end did not change
meets : (v lower upper : View Entry) (end low : ℕ) → AreHalves v lower upper → end ≡ lower.end → low ≡ upper.low → end ≡ low
meets v lower upper end low halves is_end is_low = is_end ∙ halves.lower_end ∙ sym (is_low ∙ halves.upper_low)

-- as many as the parts, which are as many as what each asked for
as_many : {C : Type 0} (command : C → List Command) (parts : List C) (n : ℕ) → n ≡ length parts → n ≡ length (map command parts)
as_many {C} command parts n is = is ∙ sym (length-map parts command)

-- one more on both sides
one_more : {D C : Type 0} (done : List D) (part : D) (parts : List C) (commands : C) → length done ≡ length parts
    → length (done ++ part ∷ []) ≡ length (parts ++ commands ∷ [])
one_more {D} {C} done part parts commands same = length_push done part ∙ ap (λ (n : ℕ). n + 1) same ∙ sym (length_push parts commands)

through : (a b c : ℕ) → a ≡ b → b ≡ c → a ≡ c
through a b c first second = first ∙ second

-- What came back for the last part, whether its thread ran it or it was called here.
came_of : (g : _) (t : _) (c : After-push_reserved g t) → IsOf c.args.env.now.lock.now c.match-started.returned.pass
came_of g t c = elim c.match-started.branch [ in-Ok-started w ↦ search rules | in-Err w ↦ search rules ]

came_by : (g : _) (t : _) (c : After-push_reserved g t) → c.match-started.returned.part.by ≡ (view_of c.in-Ok.upper).low
came_by g t c = elim c.match-started.branch [ in-Ok-started w ↦ search rules | in-Err w ↦ search rules ]

came_asked : (g : _) (t : _) (c : After-push_reserved g t)
    → HasAsked (view_of c.in-Ok.upper) (view_of c.match-started.returned.pass) (map g.C.Asked.command c.in-Some.commands.items)
    c.match-started.returned.part.replies.items c.match-started.returned.fault
came_asked g t c = elim c.match-started.branch [ in-Ok-started w ↦ search rules | in-Err w ↦ search rules ]

came_open : (g : _) (t : _) (c : After-push_reserved g t) → g.G.Gate.is_open c.args.env.now.gate.now ≡ true → c.match-started.returned.fault ≢ Some Stopped
came_open g t c = elim c.match-started.branch [ in-Ok-started w ↦ search rules | in-Err w ↦ search rules ]

came_gated : (g : _) (t : _) (c : After-push_reserved g t)
    → IsGated (g.G.Gate.may_answer c.args.env.now.gate.now (vec_len c.pop.new.self)) (map g.C.Asked.command c.in-Some.commands.items)
    c.match-started.returned.part.replies.items c.match-started.returned.fault
came_gated g t c = elim c.match-started.branch [ in-Ok-started w ↦ search rules | in-Err w ↦ search rules ]

-- there are names for each part
pub unreachable-requires : goal.unreachable-requires
unreachable-requires g t c =
    let v = view_of c.args.pass in
    let left = names_left (vec_len c.args.parts) (vec_len c.pop.new.self) v.low v.end (c.in-Some.ensures.cases) c.requires.names in
    let no = c.in_default-split.ensures.ok.1 left.0 in
    cc

-- no part is left
pub returns-in_default-clause-run : goal.returns-in_default-clause-run
returns-in_default-clause-run g t c =
    let v = view_of c.args.pass in
    rw (c.requires.empty, begun_none (commands_of g.C.Asked.command c.args.parts.items)) (run_none v)

-- what the parts before this one and this one come to
pub returns-clause-run : goal.returns-clause-run
returns-clause-run g t c =
    let v = view_of c.args.pass in
    let a = view_of c.in-Ok.lower in
    let b = view_of c.in-Ok.upper in
    let others = c.run_parts-others in
    let returned = c.match-started.returned in
    let commands = map g.C.Asked.command c.in-Some.commands.items in
    let replies = returned.part.replies.items in
    let before : List (List Command) = commands_of g.C.Asked.command c.pop.new.self.items in
    let acts : HasAsked b (view_of returned.pass) commands replies returned.fault = came_asked g t (goal.at.returns-clause-run g t c).After-push_reserved in
    let by : returned.part.by ≡ b.low = came_by g t (goal.at.returns-clause-run g t c).After-push_reserved in
    let some : v.low + 1 < v.end = c.in-Ok.ensures.ok.0 refl in
    let parts : commands_of g.C.Asked.command c.args.parts.items ≡ before ++ commands ∷ [] =
    map_push (λ part. map g.C.Asked.command part.items) c.args.parts.items c.pop.new.self.items c.in-Some.commands c.in-Some.ensures.items in
    let same : length others.result.done.items ≡ length before =
    as_many (λ part. map g.C.Asked.command part.items) c.pop.new.self.items (length others.result.done.items) others.ensures.length in
    let trails : begun_trails (commands_of g.C.Asked.command c.args.parts.items) c.push_reserved.new.self.items
    ≡ begun_trails before others.result.done.items ++ begun_trail b.low commands replies ∷ [] =
    rw (parts, c.push_reserved.ensures.items)
    (begun_push before others.result.done.items commands returned.part same
    ∙ ap (λ (n : ℕ). begun_trails before others.result.done.items ++ begun_trail n commands replies ∷ []) by) in
    rw trails
    (run_meet v a b (view_of others.result.pass) (view_of returned.pass) (view_of c.join.result) (begun_trails before others.result.done.items)
    (begun_trail b.low commands replies) (omega (arith, some)) c.in-Ok.ensures.halves others.ensures.run acts.run c.join.ensures.met)

-- no part is left, so none was begun
pub returns-in_default-clause-begun : goal.returns-in_default-clause-begun
returns-in_default-clause-begun g t c =
    rw (c.requires.empty, begun_none (commands_of g.C.Asked.command c.args.parts.items)) (begun_pass_none (g.G.Gate.may_answer c.args.env.now.gate.now))

-- the gate let the parts before this one pass as far as they came, and this one
pub returns-clause-begun : goal.returns-clause-begun
returns-clause-begun g t c =
    let b = view_of c.in-Ok.upper in
    let may = g.G.Gate.may_answer c.args.env.now.gate.now in
    let others = c.run_parts-others in
    let returned = c.match-started.returned in
    let commands = map g.C.Asked.command c.in-Some.commands.items in
    let replies = returned.part.replies.items in
    let thread = vec_len c.pop.new.self in
    let before : List (List Command) = commands_of g.C.Asked.command c.pop.new.self.items in
    let gated : IsGated (may thread) commands replies returned.fault = came_gated g t (goal.at.returns-clause-begun g t c).After-push_reserved in
    let parts : commands_of g.C.Asked.command c.args.parts.items ≡ before ++ commands ∷ [] =
    map_push (λ part. map g.C.Asked.command part.items) c.args.parts.items c.pop.new.self.items c.in-Some.commands c.in-Some.ensures.items in
    let many : length before ≡ length c.pop.new.self.items = length-map c.pop.new.self.items (λ part. map g.C.Asked.command part.items) in
    let same : length others.result.done.items ≡ length before =
    as_many (λ part. map g.C.Asked.command part.items) c.pop.new.self.items (length others.result.done.items) others.ensures.length in
    let counted : length (begun_trails before others.result.done.items) ≡ thread =
    omega (arith, length-begun before others.result.done.items same, many, c.pop.new.self.ok.0) in
    rw (parts, c.push_reserved.ensures.items, begun_push before others.result.done.items commands returned.part same)
    (begun_pass_push may (begun_trails before others.result.done.items) (begun_trail returned.part.by commands replies) thread commands returned.fault counted
    others.ensures.begun gated)

-- without a fault each of them is whole
pub returns-clause-whole : goal.returns-clause-whole
returns-clause-whole g t c none =
    let b = view_of c.in-Ok.upper in
    let others = c.run_parts-others in
    let returned = c.match-started.returned in
    let commands = map g.C.Asked.command c.in-Some.commands.items in
    let before : List (List Command) = commands_of g.C.Asked.command c.pop.new.self.items in
    let acts : HasAsked b (view_of returned.pass) commands returned.part.replies.items returned.fault = came_asked g t (goal.at.returns-clause-whole g t c).After-push_reserved in
    let parts : commands_of g.C.Asked.command c.args.parts.items ≡ before ++ commands ∷ [] =
    map_push (λ part. map g.C.Asked.command part.items) c.args.parts.items c.pop.new.self.items c.in-Some.commands c.in-Some.ensures.items in
    let all = told_none c.first_of.result others.result.fault returned.fault c.first_of.ensures none in
    rw (parts, c.push_reserved.ensures.items)
    (whole_push before others.result.done.items commands returned.part (others.ensures.whole all.0) (acts.whole all.1))

-- without a fault the gate let all of them pass
pub returns-clause-gate : goal.returns-clause-gate
returns-clause-gate g t c none =
    let b = view_of c.in-Ok.upper in
    let may = g.G.Gate.may_answer c.args.env.now.gate.now in
    let others = c.run_parts-others in
    let returned = c.match-started.returned in
    let commands = map g.C.Asked.command c.in-Some.commands.items in
    let replies = returned.part.replies.items in
    let thread = vec_len c.pop.new.self in
    let before : List (List Command) = commands_of g.C.Asked.command c.pop.new.self.items in
    let acts : HasAsked b (view_of returned.pass) commands replies returned.fault = came_asked g t (goal.at.returns-clause-gate g t c).After-push_reserved in
    let gated : IsGated (may thread) commands replies returned.fault = came_gated g t (goal.at.returns-clause-gate g t c).After-push_reserved in
    let parts : commands_of g.C.Asked.command c.args.parts.items ≡ before ++ commands ∷ [] =
    map_push (λ part. map g.C.Asked.command part.items) c.args.parts.items c.pop.new.self.items c.in-Some.commands c.in-Some.ensures.items in
    let counted : length c.pop.new.self.items ≡ thread = omega (arith, c.pop.new.self.ok.0) in
    let many : length before ≡ thread = length-map c.pop.new.self.items (λ part. map g.C.Asked.command part.items) ∙ counted in
    let all = told_none c.first_of.result others.result.fault returned.fault c.first_of.ensures none in
    pass_push may _ before commands thread parts many (others.ensures.gate all.0)
    (gated_whole (may thread) commands replies (rw all.1 at gated) (acts.whole all.1))

-- where Stopped is told, one of them was stopped
pub returns-clause-stopped : goal.returns-clause-stopped
returns-clause-stopped g t c told =
    let may = g.G.Gate.may_answer c.args.env.now.gate.now in
    let others = c.run_parts-others in
    let returned = c.match-started.returned in
    let commands = map g.C.Asked.command c.in-Some.commands.items in
    let replies = returned.part.replies.items in
    let thread = vec_len c.pop.new.self in
    let before : List (List Command) = commands_of g.C.Asked.command c.pop.new.self.items in
    let gated : IsGated (may thread) commands replies returned.fault = came_gated g t (goal.at.returns-clause-stopped g t c).After-push_reserved in
    let parts : commands_of g.C.Asked.command c.args.parts.items ≡ before ++ commands ∷ [] =
    map_push (λ part. map g.C.Asked.command part.items) c.args.parts.items c.pop.new.self.items c.in-Some.commands c.in-Some.ensures.items in
    let counted : length c.pop.new.self.items ≡ thread = omega (arith, c.pop.new.self.ok.0) in
    let many : length before ≡ thread = length-map c.pop.new.self.items (λ part. map g.C.Asked.command part.items) ∙ counted in
    stopped_early (StopsOne may (commands_of g.C.Asked.command c.args.parts.items)) c.first_of.result others.result.fault returned.fault c.first_of.ensures
    (λ earlier. stops_before may _ before commands parts (others.ensures.stopped earlier))
    (λ last. stops_last may _ before commands thread replies returned.fault parts many gated last) told

-- what the lock and the parts before ask
pub join-requires-clause-first : goal.join-requires-clause-first
join-requires-clause-first g t c = c.run_parts-others.ensures.of

pub join-requires-clause-second : goal.join-requires-clause-second
join-requires-clause-second g t c = came_of g t c

pub join-requires-clause-adjacent : goal.join-requires-clause-adjacent
join-requires-clause-adjacent g t c =
    meets (view_of c.args.pass) (view_of c.in-Ok.lower) (view_of c.in-Ok.upper) (view_of c.run_parts-others.result.pass).end
    (view_of c.match-started.returned.pass).low c.in-Ok.ensures.halves c.run_parts-others.ensures.run.goes_on.end (came_asked g t c).run.goes_on.low

pub push_reserved-requires : goal.push_reserved-requires
push_reserved-requires g t c =
    let others = c.run_parts-others.ensures in
    omega (arith, others.room.0, others.room.1, c.requires.room, c.in-Some.ensures.cases)

pub returns-clause-of : goal.returns-clause-of
returns-clause-of g t c = c.join.ensures.of

pub returns-clause-length : goal.returns-clause-length
returns-clause-length g t c =
    let others = c.run_parts-others in
    rw (c.push_reserved.ensures.items, c.in-Some.ensures.items)
    (one_more others.result.done.items c.match-started.returned.part c.pop.new.self.items c.in-Some.commands others.ensures.length)

pub returns-clause-room : goal.returns-clause-room
returns-clause-room g t c =
    let room = c.run_parts-others.ensures.room in (
      omega (arith, c.push_reserved.ensures.len, room.0, c.in-Some.ensures.cases),
      through (vec_capacity c.push_reserved.new.self) (vec_capacity c.run_parts-others.result.done) (vec_capacity c.args.done) c.push_reserved.ensures.capacity room.1,
    )

pub returns-clause-callers : goal.returns-clause-callers
returns-clause-callers g t c = inr c.join.ensures.met.callers

pub returns-clause-open : goal.returns-clause-open
returns-clause-open g t c is_open told =
    let at = (goal.at.returns-clause-open g t c).After-push_reserved in
    stopped_early ⊥ c.first_of.result c.run_parts-others.result.fault c.match-started.returned.fault
    c.first_of.ensures (c.run_parts-others.ensures.«open» is_open) (came_open g t at is_open) told

-- no part is left, so none has ended
pub returns-in_default-clause-ends : goal.returns-in_default-clause-ends
returns-in_default-clause-ends g t c =
    let none : c.args.parts.items ≡ [] = search rules in
    ([], refl {a = None}, rw (c.requires.empty, none) tt)

-- how the parts before this one ended, and this one
pub returns-clause-ends : goal.returns-clause-ends
returns-clause-ends g t c =
    let may = g.G.Gate.may_answer c.args.env.now.gate.now in
    let others = c.run_parts-others in
    let returned = c.match-started.returned in
    let at = (goal.at.returns-clause-ends g t c).After-push_reserved in
    let commands = map g.C.Asked.command c.in-Some.commands.items in
    let replies = returned.part.replies.items in
    let thread = vec_len c.pop.new.self in
    let before : List (List Command) = commands_of g.C.Asked.command c.pop.new.self.items in
    let acts : HasAsked (view_of c.in-Ok.upper) (view_of returned.pass) commands replies returned.fault = came_asked g t at in
    let gated : IsGated (may thread) commands replies returned.fault = came_gated g t at in
    let parts : commands_of g.C.Asked.command c.args.parts.items ≡ before ++ commands ∷ [] =
    map_push (λ part. map g.C.Asked.command part.items) c.args.parts.items c.pop.new.self.items c.in-Some.commands c.in-Some.ensures.items in
    let counted : length c.pop.new.self.items ≡ thread = omega (arith, c.pop.new.self.ok.0) in
    let many : length before ≡ thread = length-map c.pop.new.self.items (λ part. map g.C.Asked.command part.items) ∙ counted in
    let same : length others.result.done.items ≡ length before =
    as_many (λ part. map g.C.Asked.command part.items) c.pop.new.self.items (length others.result.done.items) others.ensures.length in
    let ends = others.ensures.ends in (
      ends.0 ++ returned.fault ∷ [],
      told_push c.first_of.result others.result.fault returned.fault ends.0 c.first_of.ensures ends.1,
      rw (parts, c.push_reserved.ensures.items, begun_push before others.result.done.items commands returned.part same)
          (end_push may 0 thread before commands (begun_trails before others.result.done.items) (begun_trail returned.part.by commands replies) ends.0 returned.fault
          (omega (arith, many)) ends.2 (ends_as (may thread) commands replies returned.fault gated acts.whole)),
    )
