use Rattle.std.proofs.Common.{◌++◌, length, ap, subst, length-append, arith}
use Rattle.dt_lex.specs.Text.{lines_of, tokens_of}
use Rattle.dt_lex.proofs.Cuts.{length-lines_of-le}
use Rattle.dt_modeltext.specs.Line.{node_name, node_names}
use Rattle.dt_model.specs.NameTable.{Finds}
use Rattle.dt_modeltext.proofs.NodeNames.{few_named, named_more, named_end}
use Rattle.dt_modeltext.proofs.nodes.node_table.Goals as goal

pub add_node-requires : goal.add_node-requires
add_node-requires c = omega (arith, length-lines_of-le c.args.text.now, ap length c.in-Some.ensures.cut)

pub loop-line-preserved : goal.loop-line-preserved
loop-line-preserved c =
    let k = c.loop-line.invariant.so_far in
    let own = node_name (tokens_of c.in-Some.line.now) in
    record {
      few = omega (arith, ap length c.in-Some.ensures.cut, few_named (tokens_of c.in-Some.line.now), c.in_ok-count.ensures.count);
      so_far = (k.0 ++ own, named_more k.0 (node_names (lines_of c.args.text.now)) c.in-Some.line.now (lines_of c.loop-line.rest.now) (lines_of c.in-Some.after.now) c.in-Some.ensures.cut k.1, omega (arith, length-append k.0 own, k.2, c.in_ok-count.ensures.count), c.in_ok-count.ensures.table k.0 k.3 k.2);
    }

pub returns : goal.returns
returns c =
    let k = c.loop-line.invariant.so_far in
    subst (Finds c.loop-line.table) (named_end k.0 (node_names (lines_of c.args.text.now)) (lines_of c.loop-line.rest.now) c.in_default.ensures.cut k.1) k.3
