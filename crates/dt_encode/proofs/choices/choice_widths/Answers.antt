use Rattle.std.proofs.Common.{◌≡◌, ◌++◌, sym, ap, ◌∙◌, subst, List}
use Rattle.std.specs.List.{AllByRecursion, flat_map}
use Rattle.dt_bits.specs.Bits.{IsWidth}
use Rattle.dt_bits.specs.declared.value.Width.{Width}
use Rattle.dt_lex.specs.declared.name.Name.{Name}
use Rattle.dt_model.specs.Accepted.{accepted_data}
use Rattle.dt_request.specs.declared.list.AccessWish.{AccessWish}
use Rattle.dt_encode.specs.Widths.{name_widths, access_widths, choice_widths}
use Rattle.dt_encode.proofs.Widths.{widths_fit}
use Rattle.dt_encode.proofs.choices.choice_widths.Goals as goal

pub returns-clause-are_widths : goal.returns-clause-are_widths
returns-clause-are_widths c =
    let d = accepted_data c.args.model.now in
    let contexts : List Name → List Width = λ names. flat_map (λ _. name_widths d.regs) names in
    let accesses : List AccessWish → List Width = λ wishes. flat_map (λ _. access_widths d) wishes in
    let first : c.push_contexts.new.widths.items ≡ contexts c.args.requests.now.contexts =
    c.in_ok-push_contexts.ensures ∙ ap (λ (l : List Width). l ++ contexts c.as_slice.result.now) c.new-widths.ensures.items ∙ ap contexts c.as_slice.ensures in
    let all : c.push_accesses.new.widths.items ≡ choice_widths d c.args.requests.now =
    c.in_ok-push_accesses.ensures ∙ ap (λ (l : List Width). l ++ accesses c.as_slice-2.result.now) first ∙ ap (λ (wishes : List AccessWish). contexts c.args.requests.now.contexts ++ accesses wishes) c.as_slice-2.ensures in
    subst (λ (ws : List Width). AllByRecursion (λ (w : Width). IsWidth w.0) ws) (sym all) (widths_fit d c.args.requests.now c.args.model.now.accepted)
