-- A walk that meets what is asked of it goes by open ways alone.
use Rattle.std.proofs.Common.{◌≡◌, ℕ, zero, suc, ◌+◌, ◌<◌, ◌≤◌, Bool, true, false, cond, not, ◌&&◌, eqb, leb, ltb, List, [], ◌∷◌, length, Some, None, ◌⊎◌, inl, inr, refl, sym, ap, ◌∙◌, arith}
use Rattle.std.specs.Prelude.{slice_get}
use Rattle.std.specs.List.{list_any, list_all, AllByRecursion}
use Rattle.std.proofs.lemmas.Bool.{eqb-true, le-leb, or_from, and_from, and_parts, ltb-true, false≢true, cases_Bool, cases_lt}
use Rattle.dt_lemmas.proofs.Options.{some_is}
use Rattle.dt_model.specs.ModelData.{ActData}
use Rattle.dt_request.specs.Lists.{is_fork}
use Rattle.dt_request.specs.declared.list.Demand.{Demand}
use Rattle.dt_request.specs.declared.list.Demand.TheVariants.{Via, Avoid, Take, EndDone, EndFault, Page, Bits, Span}
use Rattle.dt_walk.specs.Walks.{RunData}
use Rattle.dt_satisfy.specs.Demands.{Made, meets, visits, leaves}
use Rattle.dt_reach.specs.declared.ways.Ways.{Ways}
use Rattle.dt_ways.specs.Ends.{is_end}
use Rattle.dt_ways.specs.Ways.{edge_to, leads_past, differ, bars, open_edge, ends_as, ways_of, all_ways}
use Rattle.dt_reach.proofs.Gone.{Step, MayEnd, Gone}
use Rattle.dt_table.proofs.Told.{done_same, fault_same, page_same}
use Rattle.dt_table.proofs.Walked.{Hop, Last, Walked}

-- ---- demands that are met

-- a node that the walk visits isn't passed by
not_past : (all : List ActData) (run : RunData) (m t k : ℕ) → Hop all run m t → visits run k ≡ true → leads_past k m t ≡ false
not_past all run m t k h v = by_case (cases_Bool (leads_past k m t))
  where
    by_case : (leads_past k m t ≡ true) ⊎ (leads_past k m t ≡ false) → leads_past k m t ≡ false
    by_case (inl e) = let p = and_parts (ltb m k) (ltb k t) e in absurd (h.none k (ltb-true m k p.0) (ltb-true k t p.1) v)
    by_case (inr e) = e

both_sides : (all : List ActData) (run : RunData) (to m : ℕ) (b c : Bool) → Walked all to run → leaves run m c ≡ true → leaves run m b ≡ true → differ c b ≡ true → ⊥
both_sides all run to m true true w h g d = false≢true d
both_sides all run to m false true w h g d = w.once m h g
both_sides all run to m true false w h g d = w.once m g h
both_sides all run to m false false w h g d = false≢true d

-- a fork isn't left by the side that isn't asked for
not_other : (all : List ActData) (run : RunData) (to m t k : ℕ) (c : Bool) (h : Hop all run m t) → Walked all to run → leaves run k c ≡ true → (eqb m k && differ c h.by_then) ≡ false
not_other all run to m t k c h w l = by_case (cases_Bool (eqb m k && differ c h.by_then))
  where
    by_case : ((eqb m k && differ c h.by_then) ≡ true) ⊎ ((eqb m k && differ c h.by_then) ≡ false) → (eqb m k && differ c h.by_then) ≡ false
    by_case (inr e) = e
    by_case (inl e) =
        let p = and_parts (eqb m k) (differ c h.by_then) e in
        let same = eqb-true m k p.0 in
        let left : leaves run m c ≡ true = ap (λ (j : ℕ). leaves run j c) same ∙ l in
        let f = w.fork m c left in
        let step : f.0 ≡ h.step = some_is f.0 h.step (sym f.1 ∙ h.at) in
        absurd (both_sides all run to m h.by_then c w left (h.taken (ap is_fork (sym step) ∙ f.2)) p.1)

one_open : (all : List ActData) (made : Made) (to m t : ℕ) (q : Demand) (h : Hop all made.run m t) → Walked all to made.run → meets made q ≡ true → bars q m h.by_then t ≡ false
one_open all made to m t (Via k) h w e = not_past all made.run m t k h e
one_open all made to m t (Avoid k) h w e = by_case (cases_Bool (eqb t k))
  where
    by_case : (eqb t k ≡ true) ⊎ (eqb t k ≡ false) → eqb t k ≡ false
    by_case (inr n) = n
    by_case (inl s) = absurd (false≢true (ap not (sym h.there) ∙ ap (λ (j : ℕ). not (visits made.run j)) (eqb-true t k s) ∙ e))
one_open all made to m t (Take k c) h w e = or_from (leads_past k m t) (eqb m k && differ c h.by_then) (not_past all made.run m t k h (w.seen k c e)) (not_other all made.run to m t k c h w e)
one_open all made to m t EndDone h w e = refl
one_open all made to m t (EndFault code) h w e = refl
one_open all made to m t (Page exponent) h w e = refl
one_open all made to m t (Bits of mask value) h w e = refl
one_open all made to m t (Span of lo hi) h w e = refl

none_bars : (all : List ActData) (made : Made) (to m t : ℕ) (qs : List Demand) (h : Hop all made.run m t) → Walked all to made.run → AllByRecursion (λ (q : Demand). meets made q ≡ true) qs → list_any (λ q. bars q m h.by_then t) qs ≡ false
none_bars all made to m t [] h w e = refl
none_bars all made to m t (q ∷ qs) h w e = or_from (bars q m h.by_then t) (list_any (λ q. bars q m h.by_then t) qs) (one_open all made to m t q h w e.0) (none_bars all made to m t qs h w e.1)

-- a node that the walk visits isn't later than the one where it ends
not_after : (all : List ActData) (run : RunData) (m k : ℕ) → Last all run m → visits run k ≡ true → leb k m ≡ true
not_after all run m k l v = by_order (cases_lt m k)
  where
    by_order : (m < k) ⊎ (k ≤ m) → leb k m ≡ true
    by_order (inl after) = absurd (l.none k after v)
    by_order (inr before) = le-leb k m before

one_ends : (all : List ActData) (made : Made) (to m : ℕ) (q : Demand) (l : Last all made.run m) → Walked all to made.run → meets made q ≡ true → ends_as q m l.step ≡ true
one_ends all made to m (Via k) l w e = not_after all made.run m k l e
one_ends all made to m (Avoid k) l w e = refl
one_ends all made to m (Take k c) l w e = not_after all made.run m k l (w.seen k c e)
one_ends all made to m EndDone l w e = done_same made.run.end l.step l.ends ∙ e
one_ends all made to m (EndFault code) l w e = fault_same code made.run.end l.step l.ends ∙ e
one_ends all made to m (Page exponent) l w e = page_same exponent made.run.end l.step l.ends ∙ e
one_ends all made to m (Bits of mask value) l w e = refl
one_ends all made to m (Span of lo hi) l w e = refl

all_end : (all : List ActData) (made : Made) (to m : ℕ) (qs : List Demand) (l : Last all made.run m) → Walked all to made.run → AllByRecursion (λ (q : Demand). meets made q ≡ true) qs → list_all (λ q. ends_as q m l.step) qs ≡ true
all_end all made to m [] l w e = refl
all_end all made to m (q ∷ qs) l w e = and_from (ends_as q m l.step) (list_all (λ q. ends_as q m l.step) qs) (one_ends all made to m q l w e.0) (all_end all made to m qs l w e.1)

-- ---- ways

pub ways_length : (qs : List Demand) (ps : List ActData) (n : ℕ) → length (all_ways qs ps n) ≡ length ps
ways_length qs [] n = refl
ways_length qs (p ∷ ps) n = ap suc (ways_length qs ps (n + 1))

ways_at : (qs : List Demand) (ps : List ActData) (n j : ℕ) (p : ActData) → slice_get ps j ≡ Some p → slice_get (all_ways qs ps n) j ≡ Some (ways_of qs (n + j) p)
ways_at qs [] n j p e = absurd (cc)
ways_at qs (x ∷ ps) n zero p e = let same : x ≡ p = some_is x p e in let z : n ≡ n + 0 = omega arith in ap (λ (y : ActData). Some (ways_of qs n y)) same ∙ ap (λ (k : ℕ). Some (ways_of qs k p)) z
ways_at qs (x ∷ ps) n (suc j) p e = let z : n + 1 + j ≡ n + suc j = omega arith in ways_at qs ps (n + 1) j p e ∙ ap (λ (k : ℕ). Some (ways_of qs k p)) z

way_of : (w : Ways) (b : Bool) (t : ℕ) → cond b w.then_to w.other ≡ Some t → (w.then_to ≡ Some t) ⊎ (w.other ≡ Some t)
way_of w true t e = inl e
way_of w false t e = inr e

side_way : (qs : List Demand) (m t : ℕ) (p : ActData) (b : Bool) → edge_to p b ≡ Some t → list_any (λ q. bars q m b t) qs ≡ false → cond b (ways_of qs m p).then_to (ways_of qs m p).other ≡ Some t
side_way qs m t p true e n = ap (open_edge qs m true) e ∙ ap (λ (c : Bool). cond c None (Some t)) n
side_way qs m t p false e n = ap (open_edge qs m false) e ∙ ap (λ (c : Bool). cond c None (Some t)) n

-- the walk of a run that meets all that is asked
pub run_gone : (all : List ActData) (made : Made) (qs : List Demand) → Walked all 0 made.run → AllByRecursion (λ (q : Demand). meets made q ≡ true) qs → Gone (all_ways qs all 0) (visits made.run)
run_gone all made qs w e = record {
  first = w.first;
  within = λ k v. let c = w.within k v in let d = ways_length qs all 0 in omega (arith, c, d);
  on = λ k v. by_on k (w.on k v);
  from = λ k v. by_from k (w.from k v);
}
  where
    at : (k : ℕ) (p : ActData) → slice_get all k ≡ Some p → slice_get (all_ways qs all 0) k ≡ Some (ways_of qs k p)
    at k p i = let z : 0 + k ≡ k = omega arith in ways_at qs all 0 k p i ∙ ap (λ (j : ℕ). Some (ways_of qs j p)) z

    step_of : (m t : ℕ) → Hop all made.run m t → Step (all_ways qs all 0) (visits made.run) m t
    step_of m t h = record {
      ways = ways_of qs m h.step;
      at = at m h.step h.at;
      way = way_of (ways_of qs m h.step) h.by_then t (side_way qs m t h.step h.by_then h.edge (none_bars all made 0 m t qs h w e));
      here = h.here;
      there = h.there;
      rising = h.rising;
      none = h.none;
    }

    end_of : (m : ℕ) → Last all made.run m → MayEnd (all_ways qs all 0) m
    end_of m l = (ways_of qs m l.step, at m l.step l.at, and_from (is_end l.step) (list_all (λ q. ends_as q m l.step) qs) l.end_is (all_end all made 0 m qs l w e))

    by_on : (k : ℕ) → Last all made.run k ⊎ ((t : ℕ) × Hop all made.run k t) → MayEnd (all_ways qs all 0) k ⊎ ((t : ℕ) × Step (all_ways qs all 0) (visits made.run) k t)
    by_on k (inl l) = inl (end_of k l)
    by_on k (inr h) = inr (h.0, step_of k h.0 h.1)

    by_from : (k : ℕ) → (k ≡ 0) ⊎ ((m : ℕ) × Hop all made.run m k) → (k ≡ 0) ⊎ ((m : ℕ) × Step (all_ways qs all 0) (visits made.run) m k)
    by_from k (inl z) = inl z
    by_from k (inr h) = inr (h.0, step_of h.0 k h.1)
