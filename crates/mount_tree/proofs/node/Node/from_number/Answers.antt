use Rattle.std.proofs.Common.{◌<◌, arith}
use Rattle.mount_tree.proofs.NumberLemmas.{if_none, no_node, no_owner, not_zero, other_number}
use Rattle.mount_tree.proofs.node.Node.from_number.Goals as goal

pub returns-in_default-clause-none : goal.returns-in_default-clause-none
returns-in_default-clause-none c =
    let less : c.args.number < 1 = omega (arith, c.in_default.ensures) in
    not_zero c.args.number less

pub returns-in_default-owner_from-clause-none : goal.returns-in_default-owner_from-clause-none
returns-in_default-owner_from-clause-none c =
    no_owner c.args.number (rw c.in-Some.ensures.1 at c.in_default-owner_from.ensures.none)

pub returns-in_default-node_from-clause-none : goal.returns-in_default-node_from-clause-none
returns-in_default-node_from-clause-none c =
    let whose = rw c.in-Some.ensures.1 at c.in-Some-owner_from.ensures.found in
    let none = rw c.in-Some.ensures.1 at c.in_default-node_from.ensures in
    no_node c.args.number c.in-Some-owner_from.owner whose none

pub returns-clause-none : goal.returns-clause-none
returns-clause-none c =
    let whose = rw c.in-Some.ensures.1 at c.in-Some-owner_from.ensures.found in
    let at = rw c.in-Some.ensures.1 at c.in-Some-node_from.ensures in
    if_none c.same_number.result c.same_number.ensures.none
    (λ differs. other_number c.args.number c.in-Some-owner_from.owner c.in-Some-node_from.node whose at differs)
