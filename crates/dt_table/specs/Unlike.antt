-- Words that differ where blocks are apart: two blocks that are the same bits of two words are one block where the words are equal.
use Rattle.std.specs.Prelude.{ℕ, ◌+◌, ◌==◌, Bool, not, ◌&&◌, nat_le, max, if◌then◌else◌, List, [], ◌∷◌, map, Option, Some, None}
use Rattle.std.specs.List.{flat_map}
use Rattle.dt_bits.specs.declared.op.Op.TheVariants.{Slice, Concat, Or, Ite}
use Rattle.dt_model.specs.ModelData.{ModelData}
use Rattle.dt_request.specs.declared.list.Requests.{Requests}
use Rattle.dt_request.specs.declared.list.Link.{Link}
use Rattle.dt_request.specs.declared.list.Link.TheVariants.{ApartTable, ApartPage}
use Rattle.dt_terms.specs.declared.term.Term.{Term}
use Rattle.dt_terms.specs.declared.term.Term.TheVariants.{Node}
use Rattle.dt_terms.specs.Terms.{term_at, bits_at}
use Rattle.dt_forms.specs.Forms.{Form, term, form2, form3, same_of}
use Rattle.dt_table.specs.declared.out.Out.{Out}
use Rattle.dt_table.specs.declared.differing.Upper.{Upper}
use Rattle.dt_table.specs.declared.differing.UnlikeWords.{UnlikeWords}
use Rattle.dt_table.specs.Passing.{Access}
use Rattle.dt_table.specs.Apart.{Sized}
use Rattle.dt_table.specs.Spots.{Spot}
use Rattle.dt_table.specs.Links.{side_at, access_pages}

-- ---- what a term takes its upper bits from

-- a slice, whose lowest bit is bit `from` of a term
abbrev pub upper_from : ℕ → Term → Option Upper
upper_from from (Node (Slice hi lo) a b c w) = Some (record { from = from; word = a; hi = hi; lo = lo })
upper_from from _ = None

-- a term that is a slice, or one before other bits
abbrev pub upper_of : List Term → Term → Option Upper
upper_of terms (Node Concat a b c w) = upper_from (bits_at terms b) (term_at terms a)
upper_of terms x = upper_from 0 x

abbrev pub upper_at : List Term → ℕ → Option Upper
upper_at terms t = upper_of terms (term_at terms t)

-- from bit e on both terms are the same bits of their words
abbrev pub same_bits : ℕ → Upper → Upper → Bool
same_bits e x y = (nat_le x.from e && nat_le y.from e) && (x.hi == y.hi && x.lo + y.from == y.lo + x.from)

-- two words of one width that aren't one term
abbrev pub are_two : List Term → ℕ → ℕ → Bool
are_two terms s t = bits_at terms s == bits_at terms t && not (s == t)

-- ---- two nodes

abbrev pub unlike_of : List Term → ℕ → Out → Out → Option Upper → Option Upper → List UnlikeWords
unlike_of terms e o q (Some x) (Some y) =
    if same_bits e x y && are_two terms x.word y.word then record { word = x.word; other = y.word; away = o.away; other_away = q.away } ∷ []
    else []
unlike_of terms e o q _ _ = []

-- the words of which the blocks of two nodes are the same bits
abbrev pub unlikes : List Term → Sized → Sized → List UnlikeWords
unlikes terms x y = unlike_of terms (max x.exponent y.exponent) x.out y.out (upper_at terms x.out.value) (upper_at terms y.out.value)

-- the same, of two results to which walks can come
abbrev pub page_unlikes : List Term → Spot → Spot → List UnlikeWords
page_unlikes terms x y = if x.live && y.live then unlikes terms x.of y.of else []

-- ---- links

-- of the blocks that a link keeps apart
abbrev pub link_unlikes : ModelData → Requests → List Term → List (List Out) → Link → List UnlikeWords
link_unlikes d r terms oss (ApartTable s t) = unlikes terms (side_at d oss s) (side_at d oss t)
link_unlikes d r terms oss (ApartPage j k) = flat_map (λ x. flat_map (page_unlikes terms x) (access_pages d r oss k)) (access_pages d r oss j)
link_unlikes d r terms oss _ = []

abbrev pub all_unlikes : ModelData → Requests → List Term → List (List Out) → List UnlikeWords
all_unlikes d r terms oss = flat_map (link_unlikes d r terms oss) r.links

-- where the words are equal, the walks don't come to both nodes
abbrev pub unlike_form : Access → UnlikeWords → Form
unlike_form a u = form3 Ite (same_of (term u.word) (term u.other)) (form2 Or (term u.away) (term u.other_away)) (term a.one_term)

abbrev pub unlike_forms : Access → List UnlikeWords → List Form
unlike_forms a us = map (unlike_form a) us
