use Rattle.std.proofs.Common.{◌≡◌, ◌∷◌, true, List, length, is_some, Err, Some, refl, sym, ap, ◌∙◌, subst, rules}
use Rattle.trace_lex.specs.Names.{is_name}
use Rattle.trace_format.specs.Definitions.{Definition}
use Rattle.trace_command.specs.Requests.{Request, MakeInstance}
use Rattle.trace_command.specs.declared.refusal.Refusal.TheVariants.{Memory}
use Rattle.tracer_specification.specs.Settings.{declared_events}
use Rattle.trace_instance.specs.Instances.{InstanceStandsFor}
use Rattle.tracer_state.specs.States.{StandsFor}
use Rattle.tracer_state.specs.declared.state.Named.{Named}
use Rattle.tracer_state.proofs.Making.{IsNewPath, make-bad_name, make-exists, make-too_many, make-memory, make-done, there-index}
use Rattle.tracer_state.proofs.state.State.prepare_making.Goals as goal
use Rattle.tracer_state.proofs.state.State.prepare_making.Goals.{Else-is_some}

pub returns-then-not-is_name : goal.returns-then-not-is_name
returns-then-not-is_name c = λ past stands.
    make-bad_name c.args.config.now c.args.self.now past (Some c.args.name.now) c.args.name.now refl (search rules)

pub returns-then-is_some : goal.returns-then-is_some
returns-then-is_some c = λ past stands.
    let good : is_name c.args.name.now ≡ true = search rules in
    let some : is_some c.index_of.result ≡ true = search rules in
    make-exists c.args.config.now c.args.self.now past (Some c.args.name.now) c.args.name.now c.index_of.result stands refl
    good (sym c.index_of.ensures) some

path_is : (c : Else-is_some) (past : List Request) → StandsFor c.args.config.now c.args.self.now past
    → IsNewPath c.args.config.now c.args.self.now past (Some c.args.name.now) c.args.name.now
path_is c past stands = record {
  stands = stands;
  is = refl;
  good = search rules;
  new = there-index c.args.config.now c.args.self.now past _ c.index_of.result stands (sym c.index_of.ensures) ∙ search rules;
}

pub returns-then-len-ge-INSTANCES : goal.returns-then-len-ge-INSTANCES
returns-then-len-ge-INSTANCES c = λ past stands.
    make-too_many (path_is (goal.at.returns-then-len-ge-INSTANCES c).Else-is_some past stands) (search rules)

pub returns-in_err-named : goal.returns-in_err-named
returns-in_err-named c = λ past stands.
    let out : c.from_residual.result ≡ Err Memory = search rules in
    rw out (make-memory (path_is (goal.at.returns-in_err-named c).Else-is_some past stands) (search rules))

pub returns-in_err-boxed : goal.returns-in_err-boxed
returns-in_err-boxed c = λ past stands.
    let out : c.from_residual-in_err-boxed.result ≡ Err Memory = search rules in
    rw out (make-memory (path_is (goal.at.returns-in_err-boxed c).Else-is_some past stands) (search rules))

pub returns : goal.returns
returns c = λ past stands.
    let name = c.args.name.now in
    let made = c.in_ok-boxed.boxed in
    let is : made.value ≡ c.in_ok-named.named = c.in_ok-boxed.ensures.ok in
    let events : c.len-2.result ≡ length (declared_events past) = c.len-2.ensures.len ∙ ap (λ (l : List Definition). length l) stands.events in
    let stood : InstanceStandsFor c.args.config.now (Some name) (MakeInstance (Some name) ∷ past) made.value.instance =
    subst (λ (n : Named). InstanceStandsFor c.args.config.now (Some name) (MakeInstance (Some name) ∷ past) n.instance) (sym is)
    (c.in_ok-named.ensures.stands past events) in
    make-done (path_is (goal.at.returns c).Else-is_some past stands) made (search rules) (ap (λ (n : Named). n.name) is ∙ c.in_ok-named.ensures.named) stood
