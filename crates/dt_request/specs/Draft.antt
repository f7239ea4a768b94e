-- What the entries of a request list declare, and what one more adds to it.
use Rattle.std.specs.Prelude.{ℕ, Bool, false, List, [], ◌∷◌, ◌++◌, map}
use Rattle.std.specs.List.{flat_map}
use Rattle.dt_lex.specs.declared.name.Name.{Name}
use Rattle.dt_lex.specs.Reading.{last_of}
use Rattle.dt_model.specs.ModelData.{ModelData}
use Rattle.dt_model.specs.NameTable.{Finds}
use Rattle.dt_request.specs.declared.list.Demand.{Demand}
use Rattle.dt_request.specs.declared.list.Link.{Link}
use Rattle.dt_request.specs.declared.list.AccessWish.{AccessWish}
use Rattle.dt_request.specs.declared.list.KeptRange.{KeptRange}
use Rattle.dt_request.specs.declared.list.Requests.{Requests}
use Rattle.dt_request.specs.declared.draft.Draft.{Draft}
use Rattle.dt_request.specs.declared.entry.Entry.{Entry}
use Rattle.dt_request.specs.declared.entry.Entry.TheVariants as entry
use Rattle.dt_request.specs.Lists.{IsList, access_names}
use Rattle.dt_request.specs.Entry.{Declared}

-- ---- what entries declare

-- the place of the text behind a line
abbrev pub place_behind : Entry → ℕ
place_behind (entry.Header keeps) = 1
place_behind (entry.Tables lo hi) = 2
place_behind (entry.Keep range) = 3
place_behind (entry.Context name) = 4
place_behind (entry.Access name context) = 5
place_behind (entry.Demand demand) = 5
place_behind (entry.Link link) = 6
place_behind entry.End = 7

-- whether the header lets kept ranges stand in the text
abbrev pub keeps_in : Entry → List Bool
keeps_in (entry.Header keeps) = keeps ∷ []
keeps_in _ = []

abbrev pub bounds_in : Entry → List (ℕ × ℕ)
bounds_in (entry.Tables lo hi) = (lo, hi) ∷ []
bounds_in _ = []

abbrev pub kept_in : Entry → List KeptRange
kept_in (entry.Keep range) = range ∷ []
kept_in _ = []

abbrev pub contexts_in : Entry → List Name
contexts_in (entry.Context name) = name ∷ []
contexts_in _ = []

abbrev pub links_in : Entry → List Link
links_in (entry.Link link) = link ∷ []
links_in _ = []

-- the demands up to the next access
abbrev pub demands_in : List Entry → List Demand
demands_in [] = []
demands_in (entry.Demand demand ∷ es) = demand ∷ demands_in es
demands_in (entry.Access name context ∷ es) = []
demands_in (_ ∷ es) = demands_in es

-- each access, with the demands that follow it
abbrev pub accesses_in : List Entry → List AccessWish
accesses_in [] = []
accesses_in (entry.Access name context ∷ es) = record { name = name; context = context; demands = demands_in es } ∷ accesses_in es
accesses_in (_ ∷ es) = accesses_in es

-- the place behind the last line, the header's word, and the list so far
unfoldable pub declared : List Entry → Declared
declared es = record {
  place = last_of 0 (map place_behind es);
  keeps = last_of false (flat_map keeps_in es);
  list = record {
    lo = (last_of (0, 0) (flat_map bounds_in es)).0;
    hi = (last_of (0, 0) (flat_map bounds_in es)).1;
    kept = flat_map kept_in es;
    contexts = flat_map contexts_in es;
    accesses = accesses_in es;
    links = flat_map links_in es;
  };
}

-- what no line declares
abbrev pub nothing : Declared
nothing = record { place = 0; keeps = false; list = record { lo = 0; hi = 0; kept = []; contexts = []; accesses = []; links = [] } }

-- one more demand of the last access
abbrev pub with_demand : List AccessWish → Demand → List AccessWish
with_demand [] demand = []
with_demand (a ∷ []) demand = record a { demands = a.demands ++ demand ∷ [] } ∷ []
with_demand (a ∷ b ∷ wishes) demand = a ∷ with_demand (b ∷ wishes) demand

abbrev pub list_with : Requests → Entry → Requests
list_with r (entry.Tables lo hi) = record r { lo = lo; hi = hi }
list_with r (entry.Keep range) = record r { kept = r.kept ++ range ∷ [] }
list_with r (entry.Context name) = record r { contexts = r.contexts ++ name ∷ [] }
list_with r (entry.Access name context) = record r { accesses = r.accesses ++ record { name = name; context = context; demands = [] } ∷ [] }
list_with r (entry.Demand demand) = record r { accesses = with_demand r.accesses demand }
list_with r (entry.Link link) = record r { links = r.links ++ link ∷ [] }
list_with r _ = r

abbrev pub keeps_with : Bool → Entry → Bool
keeps_with before (entry.Header keeps) = keeps
keeps_with before _ = before

-- what is declared with one more entry
abbrev pub added : Declared → Entry → Declared
added so e = record { place = place_behind e; keeps = keeps_with so.keeps e; list = list_with so.list e }

-- ---- drafts

-- a draft without where it lies in memory
abbrev pub declared_by : Draft → Declared
declared_by d = record {
  place = d.place;
  keeps = d.keeps;
  list = record { lo = d.lo; hi = d.hi; kept = d.kept.items; contexts = d.contexts.items; accesses = d.accesses.items; links = d.links.items };
}

-- the names of a draft are found where they stand
pub record IsIndexed (d : Draft) : Type 0 where
  pub contexts : Finds d.context_table d.contexts.items
  pub accesses : Finds d.access_table (access_names d.accesses.items)

-- at each line the list so far is one of the model
pub record IsDraft (m : ModelData) (d : Draft) : Type 0 where
  pub list : IsList m (declared_by d).list
  pub indexed : IsIndexed d
