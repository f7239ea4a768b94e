-- The G-stage of the final address, and the choice of the smaller page.
use Rattle.std.proofs.Common.{◌≡◌, ℕ, ◌<◌, ◌^◌, Bool, true, ◌&&◌, ◌||◌, eqb, refl, sym, ap, ◌∙◌}
use Rattle.std.specs.Prelude.{if◌then◌else◌, slice_get, Some}
use Rattle.std.proofs.lemmas.Bool.{and_from, and_parts, eqb-true, eq-eqb}
use Rattle.dt_bits.specs.Memory.{Memory}
use Rattle.dt_model.specs.ModelData.{value, var, bind}
use Rattle.dt_model.specs.Faults.{steps}
use Rattle.dt_walk.specs.Meaning.{Vars, bound}
use Rattle.dt_walk.specs.declared.run.End.TheVariants.{Done}
use Rattle.dt_manual.specs.declared.access.Access.{Access}
use Rattle.dt_manual.specs.declared.access.Sv39x4Setting.{Sv39x4Setting}
use Rattle.dt_manual.specs.declared.two_stages.Use.TheVariants.{Explicit}
use Rattle.dt_manual.specs.Entry.{field}
use Rattle.dt_manual.specs.Levels.{StageEnd, reached, of_final}
use Rattle.dt_manual.specs.TwoStages.{g_walk, smaller, paged}
use Rattle.dt_stage.specs.Parts.{goes}
use Rattle.dt_stage.specs.Stage.{GoesByLevels}
use Rattle.dt_stage.specs.Tells.{Told, ends, tells}
use Rattle.dt_stage.specs.Trees.{is, both}
use Rattle.dt_stage.specs.Values.{Has}
use Rattle.dt_stage.proofs.Goes.{goes_branch, goes_bind, goes_done}
use Rattle.dt_stage.proofs.OneLevel.{h_var}
use Rattle.dt_stage.proofs.Values.{s_both, s_either, s_is}
use Rattle.dt_sv39x4.specs.Expected.{both_bare}
use Rattle.dt_sv39x4.specs.Shipped.{sv39x4_data, one_is, guest_stage, guest_final}
use Rattle.dt_sv39x4.proofs.GuestStage.{guest_tells}
use Rattle.dt_sv39x4.proofs.Machine.{env, graph, forward, h_hgatp, guest_tested, access_faults, guest_faults}
use Rattle.dt_sv39x4.proofs.Places.{read_node, done_node, ends_at}
use Rattle.dt_sv39x4.proofs.Stands.{final_stands}

-- a stage's page
pub data Size : Type 0 where
  none : Size
  s30 : Size
  s21 : Size
  s16 : Size
  s12 : Size

abbrev pub size : Size → ℕ
size none = 0
size s30 = 30
size s21 = 21
size s16 = 16
size s12 = 12

abbrev told_at : ℕ → ℕ → ℕ → Told
told_at y n page = ends (Done n y page)

abbrev either_is : ℕ → Size → Size → Bool
either_is page v g = eqb (size v) page || eqb (size g) page

smaller_page : (y : ℕ) (v g : Size) → (if eqb (size v) 0 && eqb (size g) 0 then told_at y 131 12 else (if either_is 12 v g then told_at y 135 12 else (if either_is 16 v g then told_at y 134 16 else (if either_is 21 v g then told_at y 133 21 else told_at y 132 30))))
    ≡ ends (Done (done_node (eqb (size v) 0 && eqb (size g) 0) (smaller (size v) (size g))) y (smaller (size v) (size g)))
smaller_page y none none = refl
smaller_page y none s30 = refl
smaller_page y none s21 = refl
smaller_page y none s16 = refl
smaller_page y none s12 = refl
smaller_page y s30 none = refl
smaller_page y s30 s30 = refl
smaller_page y s30 s21 = refl
smaller_page y s30 s16 = refl
smaller_page y s30 s12 = refl
smaller_page y s21 none = refl
smaller_page y s21 s30 = refl
smaller_page y s21 s21 = refl
smaller_page y s21 s16 = refl
smaller_page y s21 s12 = refl
smaller_page y s16 none = refl
smaller_page y s16 s30 = refl
smaller_page y s16 s21 = refl
smaller_page y s16 s16 = refl
smaller_page y s16 s12 = refl
smaller_page y s12 none = refl
smaller_page y s12 s30 = refl
smaller_page y s12 s21 = refl
smaller_page y s12 s16 = refl
smaller_page y s12 s12 = refl

if_both : {T : Type 0} (b : Bool) (v w x y z : T) → v ≡ (if b then w else y) → w ≡ x → y ≡ z → v ≡ (if b then x else z)
if_both b v w x y z h j k = h ∙ ap (λ q. if b then q else y) j ∙ ap (λ q. if b then x else q) k

choice : (c : Sv39x4Setting) (m : Memory) (a : Access) (v g : Size) (y : ℕ) (w : Vars) → w 19 ≡ y → w 23 ≡ size v → w 24 ≡ size g
    → tells (graph c m a) 127 w ≡ ends (Done (done_node (eqb (size v) 0 && eqb (size g) 0) (smaller (size v) (size g))) y (smaller (size v) (size g)))
choice c m a v g y w hy hv hg =
    if_both (eqb (size v) 0 && eqb (size g) 0) (tells (graph c m a) 127 w) (tells (graph c m a) 131 w) (told_at y 131 12) (tells (graph c m a) 128 w) _
    (goes_branch (graph c m a) (forward c m a) 127 (both (is (var 23) 5 0) (is (var 24) 5 0)) 131 128 w (eqb (size v) 0 && eqb (size g) 0) refl (s_both (s_is 5 0 v_is) (s_is 5 0 g_is)).is)
    (goes_done (graph c m a) 131 (var 19) 12 w 56 y refl y_is.is)
    (if_both (either_is 12 v g) (tells (graph c m a) 128 w) (tells (graph c m a) 135 w) (told_at y 135 12) (tells (graph c m a) 129 w) _
    (goes_branch (graph c m a) (forward c m a) 128 (one_is 12) 135 129 w (either_is 12 v g) refl (s_either (s_is 5 12 v_is) (s_is 5 12 g_is)).is)
    (goes_done (graph c m a) 135 (var 19) 12 w 56 y refl y_is.is)
    (if_both (either_is 16 v g) (tells (graph c m a) 129 w) (tells (graph c m a) 134 w) (told_at y 134 16) (tells (graph c m a) 130 w) _
    (goes_branch (graph c m a) (forward c m a) 129 (one_is 16) 134 130 w (either_is 16 v g) refl (s_either (s_is 5 16 v_is) (s_is 5 16 g_is)).is)
    (goes_done (graph c m a) 134 (var 19) 16 w 56 y refl y_is.is)
    (if_both (either_is 21 v g) (tells (graph c m a) 130 w) (tells (graph c m a) 133 w) (told_at y 133 21) (tells (graph c m a) 132 w) _
    (goes_branch (graph c m a) (forward c m a) 130 (one_is 21) 133 132 w (either_is 21 v g) refl (s_either (s_is 5 21 v_is) (s_is 5 21 g_is)).is)
    (goes_done (graph c m a) 133 (var 19) 21 w 56 y refl y_is.is)
    (goes_done (graph c m a) 132 (var 19) 30 w 56 y refl y_is.is))))
    ∙ smaller_page y v g
  where
    v_is : Has (env c a) w (var 23) 5 (size v)
    v_is = h_var (env c a) w 23 5 (size v) refl hv

    g_is : Has (env c a) w (var 24) 5 (size g)
    g_is = h_var (env c a) w 24 5 (size g) refl hg

    y_is : Has (env c a) w (var 19) 56 y
    y_is = h_var (env c a) w 19 56 y refl hy

-- what is told after the final G-stage, where the VS-stage has this page
abbrev pub k_final : Sv39x4Setting → Access → ℕ → StageEnd → Told
k_final c a page end = ends (ends_at (both_bare c) a.kind (paged page end))

final_exit : (c : Sv39x4Setting) (m : Memory) (a : Access) (v g : Size) (n y : ℕ) (w : Vars) → slice_get (steps sv39x4_data) n ≡ Some (bind 24 (value 5 (size g)) 127)
    → eqb c.vsatp 0 ≡ eqb (size v) 0 → eqb c.hgatp 0 ≡ eqb (size g) 0 → w 19 ≡ y → w 23 ≡ size v → tells (graph c m a) n w ≡ k_final c a (size v) (reached y (size g))
final_exit c m a v g n y w stands hv hg k j =
    goes_bind (graph c m a) (forward c m a) n 24 (value 5 (size g)) 127 w 5 (size g) stands refl
    ∙ choice c m a v g y (bound w 24 (size g)) k j refl
    ∙ ap (λ b. ends (Done (done_node b (smaller (size v) (size g))) y (smaller (size v) (size g)))) (sym (ap (λ b. b && eqb c.hgatp 0) hv ∙ ap (λ b. eqb (size v) 0 && b) hg))

-- what the final G-stage needs: the address, and the VS-stage's page
abbrev final_keeps : ℕ → ℕ → Vars → Bool
final_keeps x page w = eqb (w 15) x && eqb (w 23) page

pub final_told : (c : Sv39x4Setting) (m : Memory) (a : Access) → GoesByLevels (guest_stage guest_final) → field 1 0 c.hgatp ≡ 0 → (v : Size) (x : ℕ) (w : Vars) → w 15 ≡ x → w 23 ≡ size v → eqb c.vsatp 0 ≡ eqb (size v) 0 → x < 2 ^ 64
    → tells (graph c m a) 99 w ≡ goes read_node (k_final c a (size v)) (g_walk c m of_final (Explicit a.kind) x)
final_told c m a owed aligned v x w h j hv small =
    guest_tells (graph c m a) (forward c m a) c (Explicit a.kind) guest_final of_final x read_node (final_keeps x (size v)) (k_final c a (size v)) owed
    (record {
      stand = final_stands;
      has_hgatp = h_hgatp c a;
      aligned = aligned;
      tested = guest_tested c a;
      wide = refl;
      wide2 = refl;
      wide1 = refl;
      wide0 = refl;
      node2 = refl;
      node1 = refl;
      node0 = refl;
      has_x = λ u k. eqb-true (u 15) x (and_parts (eqb (u 15) x) (eqb (u 23) (size v)) k).0;
      small = small;
      keep2 = λ u e k. k;
      keep1 = λ u e k. k;
      keep0 = λ u e k. k;
      keep_out = λ u e k. k;
      unread = access_faults c m a;
      fault = guest_faults c m a;
      bare = λ u y k o z. final_exit c m a v none 122 y u refl hv z o (page_of_first u k);
      at30 = λ u y k o z. final_exit c m a v s30 123 y u refl hv z o (page_of_first u k);
      at21 = λ u y k o z. final_exit c m a v s21 124 y u refl hv z o (page_of_first u k);
      at16 = λ u y k o z. final_exit c m a v s16 125 y u refl hv z o (page_of_first u k);
      at12 = λ u y k o z. final_exit c m a v s12 126 y u refl hv z o (page_of_first u k);
    })
    w (and_from (eqb (w 15) x) (eqb (w 23) (size v)) (eq-eqb (w 15) x h) (eq-eqb (w 23) (size v) j))
  where
    page_of_first : (u : Vars) → final_keeps x (size v) u ≡ true → u 23 ≡ size v
    page_of_first u k = eqb-true (u 23) (size v) (and_parts (eqb (u 15) x) (eqb (u 23) (size v)) k).1
