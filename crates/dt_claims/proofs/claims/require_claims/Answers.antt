use Rattle.std.proofs.Common.{List, ◌++◌, ap, ◌∙◌}
use Rattle.std.proofs.lemmas.Result.{on_ok_weaker}
use Rattle.dt_model.specs.ModelData.{ModelData, data_of}
use Rattle.dt_terms.specs.declared.term.Term.{Term}
use Rattle.dt_build.specs.Building.{claimed}
use Rattle.dt_table.specs.declared.differing.UnlikeWords.{UnlikeWords}
use Rattle.dt_table.specs.Extras.{all_extras}
use Rattle.dt_table.specs.Pairs.{pair_forms}
use Rattle.dt_table.specs.Spots.{all_reads}
use Rattle.dt_table.specs.Table.{list_access, list_forms, claim_forms, extra_forms}
use Rattle.dt_table.specs.Unlike.{all_unlikes, unlike_forms}
use Rattle.dt_claims.specs.Views.{rows_of}
use Rattle.dt_claims.proofs.Turns.{both_required}
use Rattle.dt_claims.proofs.claims.require_claims.Goals as goal

pub returns : goal.returns
returns c =
    let d = data_of c.model-model.result.now in
    let r = c.args.requests.now in
    let rows = rows_of c.args.outs.now in
    let terms = c.args.builder.now.terms in
    let pairs = pair_forms (all_reads d r 0 rows) in
    let extras = all_extras d r 0 rows in
    let forms : List UnlikeWords → _ = unlike_forms (list_access d r) in
    let asked = both_required c.args.builder.now c.require_words.new.builder c.require_list.new.builder pairs (list_forms d r rows) c.in_ok-require_words.ensures c.in_ok-require_list.ensures in
    let words = c.as_slice.ensures.value ∙ c.in_ok-words.ensures ∙ ap (λ (ts : List Term). all_unlikes d r ts rows) c.terms.ensures in
    on_ok_weaker c.require_differing.result
    (λ h. both_required c.args.builder.now c.require_list.new.builder c.require_differing.new.builder (claim_forms d r rows) (extra_forms d r terms rows) asked
    (both_required c.require_list.new.builder c.require_all_extras.new.builder c.require_differing.new.builder extras (forms (all_unlikes d r terms rows)) c.in_ok-require_all_extras.ensures
    (h ∙ ap (λ (us : List UnlikeWords). claimed c.require_all_extras.new.builder (forms us)) words))
    ∙ ap (λ (e : ModelData). claimed c.args.builder.now (claim_forms e r rows ++ extra_forms e r terms rows)) c.model-model.ensures.same)
    c.require_differing.ensures
