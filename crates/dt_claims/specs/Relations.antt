-- How two reads or two pages relate, as forms over what stands for them.
use Rattle.dt_forms.specs.Forms.{Form}
use Rattle.dt_table.specs.Passing.{Access}
use Rattle.dt_table.specs.Apart.{Sized, apart_form}
use Rattle.dt_table.specs.Links.{one_block, apart_blocks, one_cell, one_page}
use Rattle.dt_claims.specs.declared.links.Relation.{Relation}
use Rattle.dt_claims.specs.declared.links.Relation.TheVariants.{OneTable, OneCell, TablesApart}
use Rattle.dt_claims.specs.declared.links.PageRelation.{PageRelation}
use Rattle.dt_claims.specs.declared.links.PageRelation.TheVariants.{One, Apart}

abbrev pub relation_form : Access → Relation → Sized → Sized → Form
relation_form a OneTable = one_block a
relation_form a OneCell = one_cell
relation_form a TablesApart = apart_blocks a

abbrev pub page_relation_form : Access → PageRelation → Sized → Sized → Form
page_relation_form a One = one_page a
page_relation_form a Apart = apart_form a (λ o. o.come)
