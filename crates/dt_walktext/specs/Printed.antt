-- The printed text of an image's walks.
use Rattle.std.specs.Prelude.{ℕ, ◌+◌, List, [], ◌∷◌, ◌++◌, map, codes}
use Rattle.dt_lex.specs.Numeral.{decimal, hex}
use Rattle.dt_lex.specs.Printing.{text_of}
use Rattle.dt_model.specs.ModelData.{ModelData}
use Rattle.dt_walk.specs.declared.run.End.{End}
use Rattle.dt_walk.specs.declared.run.End.TheVariants.{Done, Fault}
use Rattle.dt_walk.specs.declared.run.ReadMade.{ReadMade}
use Rattle.dt_walk.specs.Walks.{RunData}
use Rattle.dt_request.specs.Entry.{node_names}
use Rattle.dt_request.specs.Print.{name_text}
use Rattle.dt_image.specs.declared.image.Image.{Image}
use Rattle.dt_satisfy.specs.Claims.{runs_of}

-- a read that was made: its node, the cell's address, and the word there
abbrev pub read_row : ModelData → ReadMade → List (List ℕ)
read_row d r = codes "read" ∷ name_text (node_names d) r.node ∷ hex r.cell ∷ hex r.word ∷ []

-- the end: its node, with the address and the page's exponent, or the code
abbrev pub end_row : ModelData → End → List (List ℕ)
end_row d (Done node pa page) = codes "done" ∷ name_text (node_names d) node ∷ hex pa ∷ decimal page ∷ []
end_row d (Fault node code) = codes "fault" ∷ name_text (node_names d) node ∷ decimal code ∷ []

-- the run of access k
abbrev pub run_rows : ModelData → ℕ → RunData → List (List (List ℕ))
run_rows d k run = (codes "access" ∷ decimal k ∷ []) ∷ (map (read_row d) run.reads ++ end_row d run.end ∷ [])

-- runs, of which the first is that of access k
abbrev pub rows_from : ModelData → ℕ → List RunData → List (List (List ℕ))
rows_from d k [] = []
rows_from d k (run ∷ runs) = run_rows d k run ++ rows_from d (k + 1) runs

-- the walk of each access, in order
unfoldable pub walks_text : ModelData → Image → List ℕ
walks_text d image = text_of (rows_from d 0 (runs_of d image))
