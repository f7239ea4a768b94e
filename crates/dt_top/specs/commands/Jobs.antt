-- The command that words ask for.
use Rattle.std.specs.Prelude.{ℕ, ◌≡◌, true, List, [], ◌∷◌, Option, None, if◌then◌else◌, codes}
use Rattle.std.specs.Option.{option_map}
use Rattle.std.specs.Str.{bytes_eq}
use Rattle.dt_top.specs.Course.{FileRead, Outcome}
use Rattle.dt_top.specs.commands.Solve.{Solve, solve_of, solve_asked, solve_files, Solving}
use Rattle.dt_top.specs.commands.Check.{Check, check_of, check_asked, check_files, Checking}
use Rattle.dt_top.specs.commands.Replay.{Replay, replay_of, replay_asked, replay_files, Replaying}
use Rattle.dt_top.specs.commands.Walk.{Walk, walk_of, walk_asked, walk_files, Walking}
use Rattle.dt_top.specs.commands.Model.{Model, print_of, print_asked, Printing}
use Rattle.dt_top.specs.commands.Make.{Make, make_of, make_asked, Making}
use Rattle.dt_top.specs.commands.Load.{Load, load_of, load_asked, Loading}
use Rattle.dt_make.specs.Made.{can_be_made}
use Rattle.dt_top.specs.declared.commands.Job.{Job as Found}
use Rattle.dt_top.specs.declared.commands.Job.TheVariants as found

pub data Job : Type 0 where
  solve : (job : Solve) → Job
  check : (job : Check) → Job
  replay : (job : Replay) → Job
  walk : (job : Walk) → Job
  model : (job : Model) → Job
  make : (job : Make) → Job
  load : (job : Load) → Job

-- the job that the words ask for, where they have the form of one
abbrev pub job_of : List (List ℕ) → Option Job
job_of [] = None
job_of (command ∷ words) =
    if bytes_eq command (codes "solve") then option_map (λ job. solve job) (solve_of words)
    else (if bytes_eq command (codes "check") then option_map (λ job. check job) (check_of words)
    else (if bytes_eq command (codes "replay") then option_map (λ job. replay job) (replay_of words)
    else (if bytes_eq command (codes "walk") then option_map (λ job. walk job) (walk_of words)
    else (if bytes_eq command (codes "model") then option_map (λ job. model job) (print_of words)
    else (if bytes_eq command (codes "make") then option_map (λ job. make job) (make_of words)
    else (if bytes_eq command (codes "load") then option_map (λ job. load job) (load_of words) else None))))))

-- what the code asks for
abbrev pub asked : Found → Job
asked (found.Solve job) = solve (solve_asked job)
asked (found.Check job) = check (check_asked job)
asked (found.Replay job) = replay (replay_asked job)
asked (found.Walk job) = walk (walk_asked job)
asked (found.Model job) = model (print_asked job)
asked (found.Make job) = make (make_asked job)
asked (found.Load job) = load (load_asked job)

-- words can ask for the job: a list that is to be generated can be
abbrev pub CanBeAsked : Job → Type 0
CanBeAsked (make job) = can_be_made job.n ≡ true
CanBeAsked (load job) = can_be_made job.n ≡ true
CanBeAsked _ = Unit {0}

-- the files that a job reads, in the order of the words
abbrev pub files_of : Job → List (List ℕ)
files_of (solve job) = solve_files job
files_of (check job) = check_files job
files_of (replay job) = replay_files job
files_of (walk job) = walk_files job
files_of (model job) = []
files_of (make job) = []
files_of (load job) = []

-- how a job goes
abbrev pub Doing : Job → List FileRead → Outcome → Type 0
Doing (solve job) = Solving job
Doing (check job) = Checking job
Doing (replay job) = Replaying job
Doing (walk job) = Walking job
Doing (model job) = Printing job
Doing (make job) = Making job
Doing (load job) = Loading job
