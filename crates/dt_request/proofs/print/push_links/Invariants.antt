use Rattle.std.proofs.Common.{◌≡◌, ◌++◌, take}
use Rattle.std.specs.Prelude.{map}
use Rattle.dt_lex.specs.Printing.{text_of}
use Rattle.dt_model.specs.ModelData.{data_of}
use Rattle.dt_request.specs.Lists.{access_names}
use Rattle.dt_request.specs.Print.{link_row}
use Rattle.dt_request.proofs.print.push_links.Given as goal

abbrev pub invariant-loop-link : goal.invariant-loop-link
invariant-loop-link l = l.out.items ≡ l.fn.out.items ++ text_of (map (link_row (data_of l.model) (access_names l.accesses)) (take l.link-index l.links))
