use Rattle.dt_model.specs.ModelData.{data_of}
use Rattle.dt_request.proofs.Printed.{printed_after}
use Rattle.dt_request.proofs.print.push_list.Goals as goal

pub returns : goal.returns
returns c =
    printed_after (data_of c.args.model.now) c.args.list.now c.args.out.now.items c.push_row.new.out.items c.push_bounds.new.out.items c.push_kept.new.out.items c.push_contexts.new.out.items c.push_accesses.new.out.items c.push_links.new.out.items c.push_row-2.new.out.items
    (cc (c.in_ok-push_row.ensures, c.version_of.ensures, c.as_slice-kept.ensures))
    c.in_ok-push_bounds.ensures
    (cc (c.in_ok-push_kept.ensures, c.as_slice-kept.ensures))
    (cc (c.in_ok-push_contexts.ensures, c.as_slice-contexts.ensures))
    (cc (c.in_ok-push_accesses.ensures, c.as_slice-contexts.ensures, c.as_slice-accesses.ensures))
    (cc (c.in_ok-push_links.ensures, c.as_slice-accesses.ensures, c.as_slice.ensures))
    c.in_ok-push_row-2.ensures
