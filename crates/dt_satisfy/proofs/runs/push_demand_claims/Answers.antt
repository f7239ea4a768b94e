use Rattle.std.proofs.Common.{◌≡◌, ◌<◌, ◌≤◌, ◌++◌, Bool, List, map, get_or, length, sym, ap, ◌∙◌, subst, arith}
use Rattle.std.specs.List.{flat_map, zip}
use Rattle.std.proofs.lemmas.List.{length-map, take_all}
use Rattle.std.proofs.lemmas.Slice.Zip.{length-zip}
use Rattle.dt_lemmas.proofs.Lists.{each_at, pair_at, same_length, flat_pushed}
use Rattle.dt_model.specs.Accepted.{accepted_data}
use Rattle.dt_model.specs.Values.{FitNames}
use Rattle.dt_walk.specs.Walkers.{run_data}
use Rattle.dt_request.specs.declared.list.AccessWish.{AccessWish}
use Rattle.dt_request.specs.declared.list.Demand.{Demand}
use Rattle.dt_image.specs.declared.image.ImageAccess.{ImageAccess}
use Rattle.dt_satisfy.specs.Demands.{Made, meets}
use Rattle.dt_satisfy.specs.Claims.{registers, run_of, made_of, all_made}
use Rattle.dt_satisfy.proofs.Places.{registers_at, run_at, made_same, made_at}
use Rattle.dt_satisfy.proofs.runs.push_demand_claims.Goals as goal

within : (c : goal.In_ok-push_demands) → c.loop-i.i < length c.args.image.now.accesses
within c = subst (λ (xs : List ImageAccess). c.loop-i.i < length xs) c.as_slice-accesses.ensures c.loop-i-test.true

context : (c : goal.In_ok-push_demands) → c.index-accesses-i.result.context < length c.args.image.now.contexts
context c = (each_at (λ (a : ImageAccess). (a.context < length c.args.image.now.contexts) × FitNames (accepted_data c.args._model.now).inputs a.inputs) c.args.image.now.accesses c.loop-i.i c.index-accesses-i.result c.requires.image.accesses (within c) (c.index-accesses-i.is ∙ ap (λ (xs : List ImageAccess). get_or xs c.loop-i.i c.index-accesses-i.result) c.as_slice-accesses.ensures)).0

regs : (c : goal.In_ok-push_demands) → c.as_slice.result.now ≡ registers c.args.image.now c.index-accesses-i.result
regs c = registers_at c.args.image.now c.as_slice-contexts.result.now c.index-accesses-i.result c.as_slice.result.now c.index-contexts-access.result c.as_slice-contexts.ensures (context c) c.as_slice.ensures c.index-contexts-access.is

runs : (c : goal.In_ok-push_demands) → length c.args.runs.now ≡ length c.args.image.now.accesses
runs c = sym (length-map c.args.runs.now run_data) ∙ ap length c.requires.runs ∙ length-map c.args.image.now.accesses (run_of (accepted_data c.args._model.now) c.args.image.now)

run : (c : goal.In_ok-push_demands) → run_data c.index-runs-i.result ≡ run_of (accepted_data c.args._model.now) c.args.image.now c.index-accesses-i.result
run c = run_at (accepted_data c.args._model.now) c.args.image.now c.as_slice-accesses.result.now c.args.runs.now c.loop-i.i c.index-accesses-i.result c.index-runs-i.result c.as_slice-accesses.ensures c.requires.runs c.loop-i-test.true (omega (arith, within c, runs c)) c.index-accesses-i.is c.index-runs-i.is

enough : (c : goal.In_ok-push_demands) → c.loop-i.i < length (all_made (accepted_data c.args._model.now) c.args.image.now)
enough c = omega (arith, within c, length-map c.args.image.now.accesses (made_of (accepted_data c.args._model.now) c.args.image.now))

wished : (c : goal.In_ok-push_demands) → c.loop-i.i < length c.args.requests.now.accesses
wished c = omega (arith, within c, same_length (λ (a : ImageAccess). a.context) (λ (a : AccessWish). a.context) c.args.image.now.accesses c.args.requests.now.accesses c.requires.matches.accesses)

pub loop-i-preserved : goal.loop-i-preserved
loop-i-preserved c =
    let d = accepted_data c.args._model.now in
    let a = c.index-accesses-i.result in
    let made : Made = made_of d c.args.image.now a in
    let old : List Bool = c.loop-i.claims.items in
    let wishes = c.as_slice-wishes.result.now in
    let all = all_made d c.args.image.now in
    let wished_for : c.loop-i.i < length wishes = omega (arith, wished c, ap length c.as_slice-wishes.ensures) in
    flat_pushed (λ (p : Made × AccessWish). map (meets p.0) p.1.demands) c.args.claims.now.items old c.push_demands.new.claims.items (zip all wishes) c.loop-i.i (made, c.index-wishes-i.result) (omega (arith, enough c, wished_for, length-zip all wishes))
    (pair_at all wishes c.loop-i.i made c.index-wishes-i.result (enough c) wished_for (made_at d c.args.image.now c.as_slice-accesses.result.now c.loop-i.i a c.as_slice-accesses.ensures c.loop-i-test.true c.index-accesses-i.is) c.index-wishes-i.is)
    c.loop-i.invariant
    (c.in_ok-push_demands.ensures
    ∙ ap (λ (m : Made). old ++ map (meets m) c.as_slice-in-loop-i-2.result.now) (made_same d c.args.image.now a c.as_slice.result.now c.as_slice-in-loop-i.result.now (run_data c.index-runs-i.result) (regs c) c.as_slice-in-loop-i.ensures (run c))
    ∙ ap (λ (ds : List Demand). old ++ map (meets made) ds) (c.as_slice-in-loop-i-2.ensures ∙ ap (λ (w : AccessWish). w.demands) (sym c.index-wishes-i.is)))

pub returns : goal.returns
returns c =
    let all = all_made (accepted_data c.args._model.now) c.args.image.now in
    let f : Made × AccessWish → List Bool = λ p. map (meets p.0) p.1.demands in
    let over : length (zip all c.as_slice-wishes.result.now) ≤ c.loop-i.i =
    omega (arith, c.loop-i-test.false, ap length c.as_slice-accesses.ensures, length-map c.args.image.now.accesses (made_of (accepted_data c.args._model.now) c.args.image.now), length-zip all c.as_slice-wishes.result.now) in
    c.loop-i.invariant
    ∙ ap (λ (ps : List (Made × AccessWish)). c.args.claims.now.items ++ flat_map f ps) (take_all c.loop-i.i (zip all c.as_slice-wishes.result.now) over)
    ∙ ap (λ (ws : List AccessWish). c.args.claims.now.items ++ flat_map f (zip all ws)) c.as_slice-wishes.ensures
