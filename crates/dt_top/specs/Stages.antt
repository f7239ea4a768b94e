-- What the bytes of a file are to a command: a text that is refused with one line, or what it goes on with.
use Rattle.std.specs.Prelude.{ℕ, ◌≡◌, ◌⊎◌, List, Some, None, Ok, Err, codes}
use Rattle.dt_model.specs.ModelData.{ModelData}
use Rattle.dt_modeltext.specs.declared.fault.ModelFault.{ModelFault}
use Rattle.dt_modeltext.specs.Read.{IsModelText, RefusesText}
use Rattle.dt_request.specs.declared.fault.RequestFault.{RequestFault}
use Rattle.dt_request.specs.Fault.{line_of as list_line, word_of as list_word}
use Rattle.dt_request.specs.Read.{reading as list_in}
use Rattle.dt_request.specs.declared.list.Requests.{Requests}
use Rattle.dt_image.specs.declared.fault.ImageFault.{ImageFault}
use Rattle.dt_image.specs.declared.image.Image.{Image}
use Rattle.dt_image.specs.Read.{reading}
use Rattle.dt_satisfy.specs.Satisfies.{Matches}
use Rattle.dt_log.specs.declared.fault.LogFault.{LogFault}
use Rattle.dt_log.specs.Fault.{line_of as log_line, item_of as log_item, word_of as log_word}
use Rattle.dt_log.specs.Read.{LogData, reading as log_in}
use Rattle.dt_encode.specs.declared.fault.Quantity3.{Quantity3}
use Rattle.dt_encode.specs.declared.fault.EncodeFault.TheVariants.{TooLarge}
use Rattle.dt_encode.specs.SizeFault.{size_fault}
use Rattle.dt_top.specs.Lines.{bad_line, tree_line, too_large_line}
use Rattle.dt_modeltext.specs.Fault.{line_of as model_line, word_of as model_word}
use Rattle.dt_image.specs.Fault.{line_of as image_line, word_of as image_word}
use Rattle.dt_top.specs.Course.{FileRead, Outcome, Answered}
use Rattle.dt_top.specs.declared.status.Status.TheVariants as status

-- ---- a model

-- the bytes are no text of an accepted model
abbrev pub IsNoModel : List ℕ → Type 0
IsNoModel bytes = (d : ModelData) → IsModelText bytes d → ⊥

-- they have a first bad line, or the check refuses the model that they spell, and this is the line that says so
pub record IsRefusedModel (bytes text : List ℕ) : Type 0 where
  pub none : IsNoModel bytes
  pub fault : ModelFault
  pub number : ℕ
  pub refused : RefusesText bytes fault
  pub place : model_line fault ≡ Some number
  pub line : text ≡ bad_line (codes "model") number (model_word fault)

abbrev pub OnModel : List ℕ → (ModelData → List FileRead → Outcome → Type 0) → List FileRead → Outcome → Type 0
OnModel bytes next files outcome =
    ((text : List ℕ) × IsRefusedModel bytes text × Answered status.ModelRefused text files outcome)
    ⊎ ((d : ModelData) × IsModelText bytes d × next d files outcome)

-- ---- a request list

-- the bytes are a text of this list for the model
abbrev pub IsRequests : ModelData → List ℕ → Requests → Type 0
IsRequests d bytes list = list_in d bytes ≡ Ok list

-- they have a first bad line, and this is the line that says so
pub record IsRefusedList (d : ModelData) (bytes text : List ℕ) : Type 0 where
  pub fault : RequestFault
  pub number : ℕ
  pub refused : list_in d bytes ≡ Err fault
  pub place : list_line fault ≡ Some number
  pub line : text ≡ bad_line (codes "requests") number (list_word fault)

abbrev pub OnRequests : ModelData → List ℕ → (Requests → List FileRead → Outcome → Type 0) → List FileRead → Outcome → Type 0
OnRequests d bytes next files outcome =
    ((text : List ℕ) × IsRefusedList d bytes text × Answered status.RequestsRefused text files outcome)
    ⊎ ((list : Requests) × IsRequests d bytes list × next list files outcome)

-- ---- an image

-- the bytes have a first bad line, and this is the line that says so
pub record IsBadImage (d : ModelData) (bytes text : List ℕ) : Type 0 where
  pub fault : ImageFault
  pub number : ℕ
  pub refused : reading d bytes ≡ Err fault
  pub place : image_line fault ≡ Some number
  pub line : text ≡ bad_line (codes "image") number (image_word fault)

abbrev pub OnModelImage : ModelData → List ℕ → (Image → List FileRead → Outcome → Type 0) → List FileRead → Outcome → Type 0
OnModelImage d bytes next files outcome =
    ((text : List ℕ) × IsBadImage d bytes text × Answered status.InputRefused text files outcome)
    ⊎ ((i : Image) × (reading d bytes ≡ Ok i) × next i files outcome)

-- ---- an image that matches a list

-- the bytes are the text of this image, which matches the list
pub record IsMatching (d : ModelData) (list : Requests) (bytes : List ℕ) (i : Image) : Type 0 where
  pub spelled : reading d bytes ≡ Ok i
  pub matches : Matches list i

-- the bytes have a first bad line, or are the text of an image that doesn't match, and this is the line that says so
abbrev pub IsRefusedImage : ModelData → Requests → List ℕ → List ℕ → Type 0
IsRefusedImage d list bytes text =
    IsBadImage d bytes text
    ⊎ ((i : Image) × (reading d bytes ≡ Ok i) × (Matches list i → ⊥) × (text ≡ codes "refused image shape\n"))

abbrev pub OnImage : ModelData → Requests → List ℕ → (Image → List FileRead → Outcome → Type 0) → List FileRead → Outcome → Type 0
OnImage d list bytes next files outcome =
    ((text : List ℕ) × IsRefusedImage d list bytes text × Answered status.InputRefused text files outcome)
    ⊎ ((i : Image) × IsMatching d list bytes i × next i files outcome)

-- ---- the size of a list's problem

-- a product of the list is above its limit, and this is the line that says so
pub record IsTooLarge (d : ModelData) (list : Requests) (text : List ℕ) : Type 0 where
  pub what : Quantity3
  pub number : ℕ
  pub product : size_fault d list ≡ Some (TooLarge what number)
  pub line : text ≡ too_large_line what number

-- the list is within the limits
abbrev pub HasProblem : ModelData → Requests → Type 0
HasProblem d list = size_fault d list ≡ None

abbrev pub OnProblem : ModelData → Requests → (List FileRead → Outcome → Type 0) → List FileRead → Outcome → Type 0
OnProblem d list next files outcome =
    ((text : List ℕ) × IsTooLarge d list text × Answered status.TooLarge text files outcome)
    ⊎ (HasProblem d list × next files outcome)

-- ---- a log

-- the bytes have a first bad line, or a first item where no tree can go on, and this is the line that says so
pub record IsRefusedLog (bytes text : List ℕ) : Type 0 where
  pub fault : LogFault
  pub number : ℕ
  pub refused : log_in bytes ≡ Err fault
  pub line : ((log_line fault ≡ Some number) × (text ≡ bad_line (codes "log") number (log_word fault)))
      ⊎ ((log_item fault ≡ Some number) × (text ≡ tree_line number))

abbrev pub OnLog : List ℕ → (LogData → List FileRead → Outcome → Type 0) → List FileRead → Outcome → Type 0
OnLog bytes next files outcome =
    ((text : List ℕ) × IsRefusedLog bytes text × Answered status.InputRefused text files outcome)
    ⊎ ((log : LogData) × (log_in bytes ≡ Ok log) × next log files outcome)
