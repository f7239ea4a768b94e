use Rattle.std.proofs.Common.{◌≡◌, ◌+◌, ◌<◌, ◌++◌, [], ◌∷◌, take, length, get_or, map, sym, ap, subst, ◌∙◌, arith}
use Rattle.std.proofs.lemmas.List.{take_more, map_push, length-map, length-take}
use Rattle.dt_lex.specs.declared.name.Name.{Name}
use Rattle.dt_model.specs.declared.model.Named.{Named}
use Rattle.dt_model.specs.NameTable.{Finds}
use Rattle.dt_request.proofs.known.named_table.Goals as goal

pub loop-named-preserved : goal.loop-named-preserved
loop-named-preserved c =
    let i = c.loop-named.named-index in
    let ns = c.args.names.now in
    let f : Named → Name = λ n. n.name in
    let d : Named = record { name = record { bytes = []; len = 0 }; width = 0 } in
    let lt : i < length ns = omega (arith, c.loop-named-test.true) in
    let more : map f (take (i + 1) ns) ≡ map f (take i ns) ++ (get_or ns i d).name ∷ [] = ap (map f) (take_more ns i d lt) ∙ map_push f (take i ns) (get_or ns i d) in
    let count : length (map f (take i ns)) ≡ c.loop-named.at = omega (arith, length-map (take i ns) f, length-take i ns, c.loop-named.invariant.0) in
    (omega (arith, c.loop-named.invariant.0), subst (Finds c.add.new.self) (sym more) (c.in_ok-add.ensures (map f (take i ns)) c.loop-named.invariant.1 count))
