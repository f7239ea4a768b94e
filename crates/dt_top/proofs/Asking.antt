-- The job that words ask for is one that words can ask for.
use Rattle.std.proofs.Common.{◌≡◌, ℕ, Bool, true, false, List, [], ◌∷◌, Option, Some, None, refl, sym, subst}
use Rattle.std.specs.Prelude.{if◌then◌else◌, codes}
use Rattle.std.specs.Option.{option_map, option_and_then}
use Rattle.std.specs.Str.{bytes_eq}
use Rattle.dt_make.specs.Made.{can_be_made}
use Rattle.dt_top.specs.Words.{word_number}
use Rattle.dt_top.specs.commands.Solve.{solve_of}
use Rattle.dt_top.specs.commands.Check.{check_of}
use Rattle.dt_top.specs.commands.Replay.{replay_of}
use Rattle.dt_top.specs.commands.Walk.{walk_of}
use Rattle.dt_top.specs.commands.Model.{print_of}
use Rattle.dt_top.specs.commands.Make.{make_with, make_of}
use Rattle.dt_top.specs.commands.Load.{load_with, load_of}
use Rattle.dt_top.specs.commands.Jobs.{Job, solve, check, replay, walk, model, make, load, job_of, CanBeAsked}

-- what holds of the job, where there is one
abbrev Can : Option Job → Type 0
Can None = Unit {0}
Can (Some job) = CanBeAsked job

can_if : (b : Bool) (x y : Option Job) → Can x → Can y → Can (if b then x else y)
can_if true x y h k = h
can_if false x y h k = k

can_map : (A : Type 0) (f : A → Job) (x : Option A) → ((a : A) → CanBeAsked (f a)) → Can (option_map f x)
can_map A f None h = tt
can_map A f (Some a) h = h a

can_with : (n : ℕ) (b : Bool) → can_be_made n ≡ b → Can (option_map (λ job. make job) (if b then Some (record { n = n }) else None))
can_with n true e = e
can_with n false e = tt

can_number : (o : Option ℕ) → Can (option_map (λ job. make job) (option_and_then make_with o))
can_number None = tt
can_number (Some n) = can_with n (can_be_made n) refl

can_make : (words : List (List ℕ)) → Can (option_map (λ job. make job) (make_of words))
can_make [] = tt
can_make (count ∷ []) = can_number (word_number count)
can_make (count ∷ next ∷ words) = tt

can_load_with : (n : ℕ) (b : Bool) → can_be_made n ≡ b → Can (option_map (λ job. load job) (if b then Some (record { n = n }) else None))
can_load_with n true e = e
can_load_with n false e = tt

can_load_number : (o : Option ℕ) → Can (option_map (λ job. load job) (option_and_then load_with o))
can_load_number None = tt
can_load_number (Some n) = can_load_with n (can_be_made n) refl

can_load : (words : List (List ℕ)) → Can (option_map (λ job. load job) (load_of words))
can_load [] = tt
can_load (count ∷ []) = can_load_number (word_number count)
can_load (count ∷ next ∷ words) = tt

can_job : (words : List (List ℕ)) → Can (job_of words)
can_job [] = tt
can_job (command ∷ words) =
    can_if (bytes_eq command (codes "solve")) _ _ (can_map _ (λ job. solve job) (solve_of words) (λ job. tt))
    (can_if (bytes_eq command (codes "check")) _ _ (can_map _ (λ job. check job) (check_of words) (λ job. tt))
    (can_if (bytes_eq command (codes "replay")) _ _ (can_map _ (λ job. replay job) (replay_of words) (λ job. tt))
    (can_if (bytes_eq command (codes "walk")) _ _ (can_map _ (λ job. walk job) (walk_of words) (λ job. tt))
    (can_if (bytes_eq command (codes "model")) _ _ (can_map _ (λ job. model job) (print_of words) (λ job. tt))
    (can_if (bytes_eq command (codes "make")) _ _ (can_make words)
    (can_if (bytes_eq command (codes "load")) _ _ (can_load words) tt))))))

pub can_be_asked : (words : List (List ℕ)) (job : Job) → Some job ≡ job_of words → CanBeAsked job
can_be_asked words job e = subst Can (sym e) (can_job words)
