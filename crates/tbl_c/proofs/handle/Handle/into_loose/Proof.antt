-- `into_loose` sees by the address whether something is owned there.
use Rattle.std.proofs.Common.{◌≡◌, ◌^◌, ◌<◌, ℕ, List, [], ◌∷◌, ◌++◌, refl, sym, ap, ◌∙◌, subst, Option, Some, None, lit<}
use Rattle.std.specs.Option.{option_map}
use seplogic.Ra.Ura.{Ura}
use mir.Syntax.{Fn, impl, tnil, dnil}
use mir.Raw.{raw as bare}
use mir.Val.{Val, vptr, of_list}
use base.Logic.{SProp, ent, sep, emp, via, fst∗, snd∗, never, never_e}
use base.Fml.{Fml, ftrue, feq}
use prog.Memory.{Memory}
use prog.Routine.{Routine}
use prog.Wp.{Calls, Loops, WpFn}
use types.Logic.{Logic, sem}
use contract.Monad.{Fun, fact, fact_i, fact_use}
use contract.Running.{tables}
use types.Kit.{‵, raw, ◌⊛◌, prop, at_ret, ◌$◌, ◌∵◌, !, qed, by, move, keep, drop, use0, use1, split, join, fsplit, fjoin, feq_l, feq_i, regoal, suffices}
use types.Match.{live}
use types.Part.{agg, sub, whole}
use types.Run.{of_opd, bin, lit, fld, stop, no_more, and_then, first, branches, skips, exec, returns, returns_within, enter}
use types.ByLocal.{alloc_all, pass_all, free_all, look_at, get, get_in, sets, env}
use denote.RattleType.{RattleType, owns}
use denote.RawPtr.{Ptr, block_ptr, null_ptr, Testable, tests_null, in_a_block}
use denote.Memory.{lone}
use denote.Param.{layout}
use denote.Signature.{types_at, plain}
use denote.Steps.{nothing}
use denote.Triple.Clauses.{Clauses}
use denote.Triple.Entry.{alive}
use denote.Triple.Walked.{Stays, stay_dropped, walk_of}
use Rattle.core.proofs.alloc.Calls.{Al, Goes-blank, handle_tells}
use Rattle.core.proofs.cell.Inside.{Good}
use Rattle.core.proofs.option.Made.{Some-of, none_of}
use Rattle.core.specs.contracts.option.Option as OP
use Rattle.std.proofs.raw_atomic.Walks.{proved_at, leaves}
use Rattle.std.proofs.GlobalToken.{dealloc_token-Testable}
use Rattle.std_alloc.specs.Box.Ownership.{box_owns}
use Rattle.std_alloc.proofs.ResultValues.{and_tt}
use Rattle.core.specs.Ptr.{points_to}
use Rattle.std_heap.specs.contracts.Global as global
use Rattle.std_heap.specs.contracts.GlobalAllocator.TheImpl.{ghosts}
use Rattle.std_heap.proofs.Global.TheLaws as global_laws
use Rattle.tbl_c.specs.contracts.service.Service as service
use Rattle.tbl_c.specs.Held.{held}
use Rattle.tbl_c.specs.Serving.{Serving}
use Rattle.tbl_c.proofs.Loosely.{both, Loose, loose_good, loose_in}
use Rattle.tbl_c.proofs.Values.{handle_val, handle_own, handle_told, handle_typed, ptr_typed}
use Rattle.tbl_c.specs.contracts.handle.Handle as handle
use Rattle.tbl_c.specs.contracts.handle.Handle.into_loose.{ended, clauses}
use Rattle.tbl_c.specs.contracts.handle.Handle.into_loose.Key.{name as #self}
use Rattle.tbl_c.proofs.handle.Handle.into_loose.Statement.{statement}
use Rattle.tbl_c.proofs.handle.Handle.into_loose.Code as compiled

abbrev R : RattleType
R = service.the_row

abbrev Z : RattleType
Z = global.the_row

abbrev L : RattleType
L = Loose R Z global_laws.the_row_laws ghosts

abbrev al : Al
al = record { row = Z; laws = global_laws.the_row_laws; g = ghosts; d = impl [] tnil dnil; drops = impl [] tnil dnil }

abbrev stays : Stays ended.signature.params ended.kept
stays = (stay_dropped (plain (λ _. handle.the_row)) ended.kept.0, (stay_dropped (plain (λ _. Z)) ended.kept.1.0, tt))

abbrev fn : Fn
fn = compiled.function

module _ {M : Type 1} {𝓤 : Ura M} (𝓛 : Logic 𝓤) (at_mem : Memory → SProp 𝓤) (run : Routine → Fun 𝓤) (C : Calls 𝓤 𝓛.H) (Λ : Loops 𝓤 𝓛.H)
    (z : (walk_of 𝓛 ended stays (clauses 𝓛 at_mem run)).Ghost) (h : Val) (fits : Good (layout Z) h) where
  abbrev Post : Val → SProp 𝓤
  Post = (walk_of 𝓛 ended stays (clauses 𝓛 at_mem run)).post z

  abbrev Runs : Ptr → SProp 𝓤
  Runs p = WpFn 𝓤 𝓛.H C Λ fn (handle_val p ∷ h ∷ []) Post

  abbrev Own : Fml
  Own = Z.own_val z.0.3.1.0 (h ∷ [])

  abbrev Rest : SProp 𝓤
  Rest = sep 𝓤 (sem 𝓛 Own) (alive 𝓛 ended.signature z.0.0 z.0.1)

  closed : z.0.3.0.service ≡ None → ent 𝓤 Rest (Runs null_ptr)
  closed is = qed 𝓛 (‵ Own ∷ raw (alive 𝓛 ended.signature z.0.0 z.0.1) ∷ []) ∵ drop ! $
      enter ! C Λ fn (handle_val null_ptr ∷ h ∷ []) Post $ alloc_all ! (λ l. pass_all ! refl (handle_typed null_ptr, (fits, tt)) $
      sets ! (of_opd ! (get_in ! (fld ! refl (stop !)) (sub ! 0 refl (whole !)))) refl (ptr_typed null_ptr) $
      sets ! (bin ! (get ! refl) (lit ! tt) (tests_null null_ptr (lit< tt))) refl (tt, tt) $
      first ! $ branches ! (get ! refl)
      (λ t. sets ! (agg ! (and_then ! (lit ! tt) (no_more !))) refl (tt, (record { fits = lit< tt }, tt)) $
      returns_within ! Post refl (look_at ! 0 refl) $ free_all ! refl $
      use0 𝓛 (‵ ((OP.the_row L).own_val None (live 0 (of_list []) ∷ []))) (none_of 𝓛 L) $
      use0 𝓛 (raw (fact 𝓤 (None ≡ z.0.3.0.service))) (fact_i 𝓤 (None ≡ z.0.3.0.service) (emp 𝓤) (sym is)) $
      nothing ! $ nothing ! $ fjoin ! $ nothing ! $ fjoin ! $ move ! (3 ∷ 0 ∷ 2 ∷ 1 ∷ []) $
      by ! (leaves 𝓛 ended stays (clauses 𝓛 at_mem run) z (live 0 (of_list [])) None (tt, (tt, tt)) (tt, (tt, tt))))
      (λ t. absurd t))

  open_at : (b o : ℕ) (kept : Serving) → z.0.3.0.service ≡ Some kept → ent 𝓤 (sep 𝓤 (sem 𝓛 (box_owns (ghosts.dealloc_token z.0.3.1.0) R (block_ptr b o) kept)) Rest) (Runs (block_ptr b o))
  open_at b o kept is =
      fact_use 𝓤 (Testable (block_ptr b o))
      (via 𝓤 _ (fst∗ 𝓤 (sem 𝓛 (box_owns (ghosts.dealloc_token z.0.3.1.0) R (block_ptr b o) kept)) Rest) (via 𝓤 _ (snd∗ 𝓤 (sem 𝓛 (points_to R (block_ptr b o) kept)) (sem 𝓛 (ghosts.dealloc_token z.0.3.1.0 (bare (lone R.mir)) (block_ptr b o)))) (dealloc_token-Testable 𝓛 z.0.3.1.0 (bare (lone R.mir)) (block_ptr b o)))) (λ may.
      qed 𝓛 (‵ (box_owns (ghosts.dealloc_token z.0.3.1.0) R (block_ptr b o) kept) ∷ ‵ Own ∷ raw (alive 𝓛 ended.signature z.0.0 z.0.1) ∷ []) ∵
      enter ! C Λ fn (handle_val (block_ptr b o) ∷ h ∷ []) Post $ alloc_all ! (λ l. pass_all ! refl (handle_typed (block_ptr b o), (fits, tt)) $
      sets ! (of_opd ! (get_in ! (fld ! refl (stop !)) (sub ! 0 refl (whole !)))) refl (tt, tt) $
      sets ! (bin ! (get ! refl) (lit ! tt) (tests_null (block_ptr b o) may)) refl (tt, tt) $
      first ! $ branches ! (get ! refl) (λ t. absurd t)
      (λ t. skips ! $ exec ! C Λ (env compiled.Mir.locals l) compiled.Mir.t-4 (at_ret _ Post) $
      sets ! (of_opd ! (get ! refl)) refl (tt, tt) $
      sets ! (agg ! (and_then ! (get ! refl) (and_then ! (get ! refl) (no_more !)))) refl (loose_good R Z global_laws.the_row_laws ghosts b o h fits) $
      loose_in R Z global_laws.the_row_laws ghosts ! b o h z.0.3.1.0 kept $
      let x : L.Denot = record { at = block_ptr b o; alloc = z.0.3.1.0; value = kept } in let w : Val = both (vptr b o) h in let good = loose_good R Z global_laws.the_row_laws ghosts b o h fits in
      use1 𝓛 (‵ ((OP.the_row L).own_val (Some x) (live 1 (of_list (w ∷ [])) ∷ []))) (Some-of 𝓛 L x w) $
      sets ! (agg ! (and_then ! (lit ! tt) (and_then ! (get ! refl) (no_more !)))) refl (and_tt _ good.0, (record { fits = lit< tt }, (good.1, tt))) $
      returns ! (look_at ! 0 refl) $ free_all ! refl $
      use0 𝓛 (raw (fact 𝓤 (Some kept ≡ z.0.3.0.service))) (fact_i 𝓤 (Some kept ≡ z.0.3.0.service) (emp 𝓤) (sym is)) $
      nothing ! $ nothing ! $ fjoin ! $ nothing ! $ fjoin ! $ move ! (3 ∷ 0 ∷ 2 ∷ 1 ∷ []) $
      by ! (leaves 𝓛 ended stays (clauses 𝓛 at_mem run) z (live 1 (of_list (w ∷ []))) (Some x) (tt, (tt, tt)) (tt, (tt, tt))))))

  each : (p : Ptr) (t : Option Serving) → z.0.3.0.service ≡ t → ent 𝓤 (sep 𝓤 (sem 𝓛 (held p t)) Rest) (Runs p)
  each p None is = qed 𝓛 (‵ (feq Ptr p null_ptr) ∷ raw Rest ∷ []) ∵ feq_l ! (λ e. regoal ! (λ q. prop (Runs q)) e refl $ by ! (closed is))
  each (block_ptr b o) (Some kept) is = open_at b o kept is
  each null_ptr (Some kept) is = via 𝓤 (never 𝓤) (via 𝓤 _ (fst∗ 𝓤 (sem 𝓛 (held null_ptr (Some kept))) Rest) (fst∗ 𝓤 (never 𝓤) (sem 𝓛 (ghosts.dealloc_token z.0.3.1.0 (bare (lone R.mir)) null_ptr)))) (never_e 𝓤 _)

pub into_loose_spec : {M : Type 1} → statement M
into_loose_spec 𝓤 𝓛 𝓜 𝓡 wired =
    let H = 𝓛.H in
    let C = (tables 𝓤 H 𝓜 𝓡 𝓡.env).C in
    let Λ = (tables 𝓤 H 𝓜 𝓡 𝓡.env).Λ in
    proved_at 𝓛 ended stays (clauses 𝓛 𝓜.mem 𝓡.returns) 𝓜 𝓡 (Goes-blank 𝓛 0 (plain (λ _. handle.the_row)) ended.kept.0 (λ κs x f. tt), (Goes-blank 𝓛 0 (plain (λ _. Z)) ended.kept.1.0 (λ κs x f. tt), tt)) #self fn (compiled.unfolded 𝓤 H 𝓜 𝓡 wired) (λ z are.
    let told = handle_told z.0.3.0.at z.0.4.0 are.0.0 in
    qed 𝓛 ((raw (alive 𝓛 ended.signature z.0.0 z.0.1) ⊛ ‵ (owns (types_at ended.signature.params z.0.0) z.0.3 z.0.4)) ∷ ‵ ftrue ∷ []) ∵ move ! (1 ∷ []) $ drop ! $ split ! $ move ! (1 ∷ []) $ fsplit ! $
    fsplit ! $ drop ! $ move ! (1 ∷ []) $ fsplit ! $ handle_tells al ! z.0.3.1.0 z.0.4.1.0 (λ h eh fits. keep ! (2 ∷ 0 ∷ 3 ∷ []) $
    regoal ! (λ (us : List Val). prop (WpFn 𝓤 H C Λ fn us (Post 𝓛 𝓜.mem 𝓡.returns C Λ z h fits))) (λ i. told i ++ (eh i ++ [])) refl $
    by ! (each 𝓛 𝓜.mem 𝓡.returns C Λ z h fits z.0.3.0.at z.0.3.0.service refl)))
