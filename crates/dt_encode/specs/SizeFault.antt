-- Why a list is too large to have a problem: the first product above its limit.
use Rattle.std.specs.Prelude.{nat_lt, if◌then◌else◌, Option, Some, None}
use Rattle.dt_model.specs.ModelData.{ModelData}
use Rattle.dt_request.specs.declared.list.Requests.{Requests}
use Rattle.dt_table.specs.Sizes.{read_product, done_product, term_product, most_read_product, most_done_product, most_term_product}
use Rattle.dt_encode.specs.declared.fault.Quantity3.TheVariants.{Reads, Dones, Terms}
use Rattle.dt_encode.specs.declared.fault.EncodeFault.{EncodeFault}
use Rattle.dt_encode.specs.declared.fault.EncodeFault.TheVariants.{TooLarge}

-- the first product that is above its limit, in the order of reads, dones and terms
abbrev pub size_fault : ModelData → Requests → Option EncodeFault
size_fault d r =
    if nat_lt most_read_product (read_product d r) then Some (TooLarge Reads (read_product d r))
    else (if nat_lt most_done_product (done_product d r) then Some (TooLarge Dones (done_product d r))
    else (if nat_lt most_term_product (term_product d r) then Some (TooLarge Terms (term_product d r))
    else None))
