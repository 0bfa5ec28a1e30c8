-- `of` makes a value of no bytes, whose items are read off the argument.
use Rattle.std.proofs.Common.{[], ◌∷◌, refl}
use Rattle.std.proofs.raw_atomic.Walks.{proved}
use mir.Syntax.{a_type, dcons, dnil, named}
use mir.Val.{Val, vstruct, vcons, vnil}
use mir.MapTy.{inst_fn}
use base.Fml.{Fml}
use contract.Running.{tables}
use types.Kit.{‵, raw, ◌⊛◌, ◌$◌, ◌∵◌, !, qed, keep, use0, join, fjoin, split, suffices, done, move}
use types.Part.{agg}
use types.Run.{enter, no_more, and_then, returns}
use types.ByLocal.{alloc_all, pass_all, free_all, look_at, get, sets}
use denote.Builtin.{RefOf}
use denote.Exit.{yes}
use denote.Param.{param, bounded}
use denote.RattleType.{RattleType, owns}
use denote.Ref.{shr_vals, shr_Tells}
use denote.Shadow.{makes_shadow}
use denote.Signature.{type_at, types_at, plain}
use denote.Steps.{nothing}
use denote.Triple.Entry.{alive, Res}
use denote.Triple.Walked.{Stays, walk_of, says, ends_at, stay_dropped, Goes-dropped}
use Rattle.ghost_list.specs.contracts.list.GhostList.of as f
use Rattle.ghost_list.proofs.list.GhostList.of.Statement.{statement}
use Rattle.ghost_list.proofs.list.GhostList.of.Code as code

pub of_spec : {M : Type 1} → statement M
of_spec 𝓤 𝓛 𝓜 𝓡 wired T X Y LT LX LY g d _ =
    let R : RattleType = param 1 X in
    let En = f.ended T X Y g d in
    let inst = bounded (a_type ∷ a_type ∷ a_type ∷ []) (T, (X, (Y, tt))) (dcons d dnil) in
    let function = inst_fn inst code.function in
    let c = f.clauses T X Y g d 𝓛 𝓜.mem 𝓡.returns in
    let arg = RefOf (0 ∷ []) tt (plain (λ _. R)) (λ _. tt) in
    let stayed : Stays En.signature.params En.kept = (stay_dropped arg yes, tt) in
    let W = walk_of 𝓛 En stayed c in let 𝓣 = tables 𝓤 𝓛.H 𝓜 𝓡 𝓡.env in
    proved 𝓛 En stayed c 𝓜 𝓡 (Goes-dropped 𝓛 4 arg yes (λ κs x w. refl), tt)
    (f.Key.name inst) function (code.unfolded 𝓤 𝓛.H 𝓜 𝓡 wired (T, (X, (Y, tt))) d)
    (λ κs. (shr_vals, tt)) (λ κs. (shr_Tells (named 0) κs.0 R, tt)) (λ κs qs bounds a gh are.
    let y : W.Ghost = ((κs, qs, bounds, a, (shr_vals a.0, tt)), gh) in
    let v : Val = vstruct (vcons (vstruct vnil) vnil) in
    let r : Res En.signature κs = record { marker = record {}; items = g.items a.0.now } in
    let O : Fml = (type_at En.signature.result κs).own_val r (v ∷ []) in
    qed 𝓛 ((raw (alive 𝓛 En.signature κs qs) ⊛ ‵ (owns (types_at En.signature.params κs) a y.0.4)) ∷ raw ((c κs a).requires gh) ∷ []) ∵ split ! $ keep ! (0 ∷ []) $
    enter ! _ _ _ _ _ $ alloc_all ! (λ l. pass_all ! refl ((tt, tt), tt) $
    sets ! (agg ! (no_more !)) refl (tt, tt) $ sets ! (agg ! (and_then ! (get ! refl) (no_more !))) refl (tt, (tt, tt)) $
    returns ! (look_at ! 0 refl) $ free_all ! refl $
    use0 𝓛 (‵ O) (makes_shadow 𝓛 O ((λ vss. (tt, ((λ uss. (tt, tt)), tt))), tt) (((vstruct vnil ∷ [], tt), (refl, ((tt, (refl, tt)), tt))), tt)) $
    suffices ! _ (ends_at 𝓛 En stayed c y v r (tt, tt) (tt, tt)) $ says ! refl $
    nothing ! $ nothing ! $ fjoin ! $ join ! $ move ! (1 ∷ 0 ∷ []) $ join ! $ done !))
