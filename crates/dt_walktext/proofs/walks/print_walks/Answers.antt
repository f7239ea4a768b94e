use Rattle.std.proofs.Common.{◌≡◌, ◌<◌, ◌++◌, List, ℕ, map, get_or, length, refl, ap, ◌∙◌, subst}
use Rattle.std.proofs.lemmas.List.{take_all}
use Rattle.dt_lemmas.proofs.Lists.{each_at}
use Rattle.dt_lex.specs.Printing.{text_of}
use Rattle.dt_model.specs.Accepted.{accepted_data}
use Rattle.dt_model.specs.ModelData.{ModelData}
use Rattle.dt_model.specs.Values.{FitNames}
use Rattle.dt_walk.specs.Walkers.{run_data, walker_data}
use Rattle.dt_image.specs.declared.image.ImageAccess.{ImageAccess}
use Rattle.dt_satisfy.specs.Claims.{run_of}
use Rattle.dt_satisfy.proofs.Places.{registers_at, run_made}
use Rattle.dt_walktext.specs.Printed.{run_rows, rows_from, walks_text}
use Rattle.dt_walktext.proofs.RunRows.{walks_more}
use Rattle.dt_walktext.proofs.walks.print_walks.Goals as goal

within : (c : goal.In_ok-push_run) → c.loop-k.k < length c.args.image.now.accesses
within c = subst (λ (xs : List ImageAccess). c.loop-k.k < length xs) c.as_slice-accesses.ensures c.loop-k-test.true

context : (c : goal.In_ok-push_run) → c.index-accesses-k.result.context < length c.args.image.now.contexts
context c = (each_at (λ (a : ImageAccess). (a.context < length c.args.image.now.contexts) × FitNames (accepted_data c.args.model.now).inputs a.inputs) c.args.image.now.accesses c.loop-k.k c.index-accesses-k.result c.requires.accesses (within c) (c.index-accesses-k.is ∙ ap (λ (xs : List ImageAccess). get_or xs c.loop-k.k c.index-accesses-k.result) c.as_slice-accesses.ensures)).0

run : (c : goal.In_ok-push_run) → run_data c.walk-run.result.now ≡ run_of (accepted_data c.args.model.now) c.args.image.now c.index-accesses-k.result
run c = run_made (accepted_data c.args.model.now) (walker_data c.loop-k.walker) c.args.image.now c.index-accesses-k.result c.as_slice-regs.result.now c.as_slice.result.now c.args.image.now.memory _ c.walk-run.ensures.run c.loop-k.invariant.walker
    (registers_at c.args.image.now c.as_slice-contexts.result.now c.index-accesses-k.result c.as_slice-regs.result.now c.index-contexts-access.result c.as_slice-contexts.ensures (context c) c.as_slice-regs.ensures c.index-contexts-access.is)
    c.as_slice.ensures refl

pub loop-k-preserved : goal.loop-k-preserved
loop-k-preserved c =
    let d = accepted_data c.args.model.now in
    record {
      walker = c.walk-run.follows.holds-at-none ∙ c.loop-k.invariant.walker;
      text = walks_more d c.args.image.now c.as_slice-accesses.result.now c.loop-k.k c.index-accesses-k.result (run_data c.walk-run.result.now) _ _ c.loop-k-test.true c.index-accesses-k.is (run c) c.loop-k.invariant.text
          (c.in_ok-push_run.ensures ∙ ap (λ (x : ModelData). c.loop-k.out.items ++ text_of (run_rows x c.loop-k.k (run_data c.walk-run.result.now))) c.model.ensures.same);
    }

pub returns : goal.returns
unfolding walks_text
returns c =
    let d = accepted_data c.args.model.now in
    c.loop-k.invariant.text ∙ ap (λ (xs : List ImageAccess). text_of (rows_from d 0 (map (run_of d c.args.image.now) xs))) (take_all c.loop-k.k c.as_slice-accesses.result.now c.loop-k-test.false ∙ c.as_slice-accesses.ensures)
