use Rattle.dt_modeltext.proofs.PrintedPieces.{printed_after}
use Rattle.dt_modeltext.proofs.print.push_model.Goals as goal

pub returns : goal.returns
returns c =
    printed_after c.args.model.now c.args.out.now.items c.push_row.new.out.items c.push_size.new.out.items c.push_size-2.new.out.items c.push_names.new.out.items c.push_names-2.new.out.items c.push_names-3.new.out.items c.push_rules.new.out.items c.push_rules-2.new.out.items c.push_nodes.new.out.items c.push_row-2.new.out.items c.in_ok-push_row.ensures c.in_ok-push_size.ensures c.in_ok-push_size-2.ensures (cc (c.in_ok-push_names.ensures, c.as_slice.ensures)) (cc (c.in_ok-push_names-2.ensures, c.as_slice-2.ensures)) (cc (c.in_ok-push_names-3.ensures, c.as_slice-3.ensures)) (cc (c.in_ok-push_rules.ensures, c.as_slice-4.ensures)) (cc (c.in_ok-push_rules-2.ensures, c.as_slice-5.ensures)) c.in_ok-push_nodes.ensures c.in_ok-push_row-2.ensures
