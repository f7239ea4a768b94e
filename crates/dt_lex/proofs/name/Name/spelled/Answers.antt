use Rattle.std.proofs.Common.{sym, subst}
use Rattle.dt_lex.specs.Names.{IsName}
use Rattle.dt_lex.proofs.Padded.{padded_at, padded_is}
use Rattle.dt_lex.proofs.name.Name.spelled.Goals as goal

pub returns-clause-valid : goal.returns-clause-valid
returns-clause-valid c = subst IsName (sym (padded_at c.args.bytes.now _ _ c.copy_from_slice.ensures.after c.split_at_mut-front.ensures.back)) (padded_is c.args.bytes.now c.requires)
