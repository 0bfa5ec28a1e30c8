use Rattle.std.proofs.Common.{◌≡◌, ◌≢◌, ◌<◌, ◌⊎◌, inl, inr, Result, Ok, Err, IfOk, IfErr, [], map, vec_len, AllPairs, sym, subst, ◌∙◌, rules}
use Rattle.ticket_lock.specs.Calls.{view_of}
use Rattle.shared_book.proofs.SameBases.{numbers_of-determines}
use Rattle.trace_command.specs.declared.command.Config.{Config}
use Rattle.trace_command.specs.declared.command.Entry.{Entry}
use Rattle.tracer_specification.specs.Blocks.{IsBlock}
use Rattle.tracer_specification.specs.History.{IsLegal}
use Rattle.trace_workers.specs.BlockRuns.{trails_of}
use Rattle.trace_workers.specs.Gates.{LetsAllPass, StopsOne}
use Rattle.trace_workers.specs.declared.fault.BlockFault.{BlockFault}
use Rattle.trace_workers.specs.declared.fault.BlockFault.TheVariants.{Memory, Stopped}
use Rattle.parallel_history.proofs.Histories.{is_history}
use Rattle.parallel_history.proofs.history.history_of.Goals as goal

-- what is true of the book and of all replies is true of those that are returned
kept : {A B E : Type 0} (book : A) (done : Result B E) (result : Result (A × B) E) → IfOk result (λ r. (r.0 ≡ book) × (done ≡ Ok r.1))
    → (P : B → Type 0) (Q : A → B → Type 0) → IfOk done P → ((replies : B) → P replies → Q book replies) → IfOk result (λ r. Q r.0 r.1)
kept {A} {B} {E} book done (Ok r) is P Q all each =
    subst (λ (a : A). Q a r.1) (sym is.0) (each r.1 (subst (λ (d : Result B E). IfOk d P) is.1 all))
kept {A} {B} {E} book done (Err fault) is P Q all each = search rules

-- what is true of Memory and of the block's fault is true of the one that is returned
told : {A B : Type 0} (done : Result B BlockFault) (result : Result A BlockFault) → IfErr result (λ fault. (fault ≡ Memory) ⊎ (done ≡ Err fault))
    → (P : BlockFault → Type 0) → P Memory → IfErr done P → IfErr result P
told {A} {B} done (Ok r) is P memory all = search rules
told {A} {B} done (Err fault) (inl is) P memory all = subst P (sym is) memory
told {A} {B} done (Err fault) (inr is) P memory all = subst (λ (d : Result B BlockFault). IfErr d P) is all

pub returns-clause-count : goal.returns-clause-count
returns-clause-count g c =
    kept c.close.result c.run_block-root.result.1 c.if_unworn.result c.if_unworn.ensures.done _
    (λ book replies. vec_len replies ≡ vec_len c.args.parts) c.run_block-root.ensures.done (λ replies is. is.0)

-- the base of the book did not change, and tells its configuration
pub returns-clause-config : goal.returns-clause-config
returns-clause-config g c =
    kept c.close.result c.run_block-root.result.1 c.if_unworn.result c.if_unworn.ensures.done _
    (λ book replies. book.config ≡ c.args.config) c.run_block-root.ensures.done
    (λ replies is. numbers_of-determines c.close.result.config c.args.config (c.close.ensures.base ∙ is.1.base ∙ c.in-Ok.ensures.root.base))

pub returns-clause-rising : goal.returns-clause-rising
returns-clause-rising g c =
    kept c.close.result c.run_block-root.result.1 c.if_unworn.result c.if_unworn.ensures.done _
    (λ book replies. AllPairs (λ (one other : Entry). one.ticket < other.ticket) book.entries) c.run_block-root.ensures.done
    (λ replies is. c.close.ensures.rising)

pub returns-clause-history : goal.returns-clause-history
returns-clause-history g c =
    let v = view_of c.in-Ok.root in
    let w = view_of c.run_block-root.result.0 in
    let closed = c.close.result in
    let legal : IsLegal closed.config closed.entries = search rules in
    kept closed c.run_block-root.result.1 c.if_unworn.result c.if_unworn.ensures.done _
    (λ book replies. IsBlock c.args.config [] book.entries (trails_of (map (λ part. part.items) c.args.parts.items) replies.items)) c.run_block-root.ensures.done
    (λ replies is.
    is_history c.args.config v w (trails_of (map (λ part. part.items) c.args.parts.items) replies.items) closed.entries
    c.in-Ok.ensures.root.seen c.in-Ok.ensures.root.base c.close.ensures.entries is.1
    (subst (λ (config : Config). IsLegal config closed.entries)
    (numbers_of-determines closed.config c.args.config (c.close.ensures.base ∙ is.1.base ∙ c.in-Ok.ensures.root.base)) legal))

pub returns-clause-unworn : goal.returns-clause-unworn
returns-clause-unworn g c = c.if_unworn.ensures.unworn

pub returns-clause-open : goal.returns-clause-open
returns-clause-open g c is_open =
    told c.run_block-root.result.1 c.if_unworn.result c.if_unworn.ensures.fault (λ fault. fault ≢ Stopped) (λ e. absurd cc)
    (c.run_block-root.ensures.«open» is_open)

pub returns-clause-gate : goal.returns-clause-gate
returns-clause-gate g c =
    kept c.close.result c.run_block-root.result.1 c.if_unworn.result c.if_unworn.ensures.done _
    (λ book replies. LetsAllPass (g.G.Gate.may_answer c.args.gate.now) (map (λ part. part.items) c.args.parts.items)) c.run_block-root.ensures.gate
    (λ replies all. all)

pub returns-clause-stopped : goal.returns-clause-stopped
returns-clause-stopped g c =
    told c.run_block-root.result.1 c.if_unworn.result c.if_unworn.ensures.fault
    (λ fault. fault ≡ Stopped → StopsOne (g.G.Gate.may_answer c.args.gate.now) (map (λ part. part.items) c.args.parts.items)) (λ e. absurd cc)
    c.run_block-root.ensures.stopped
