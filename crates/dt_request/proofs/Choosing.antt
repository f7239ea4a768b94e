-- How many registers, inputs, read nodes and bits an accepted model has at most.
use Rattle.std.proofs.Common.{◌≡◌, ℕ, ◌+◌, ◌*◌, ◌≤◌, List, length, arith, ⊎_elim}
use Rattle.std.specs.Prelude.{map, count_by, if◌then◌else◌}
use Rattle.std.proofs.lemmas.List.Elements.{All-from_recursion}
use Rattle.std.proofs.lemmas.List.Folds.{fold-map}
use Rattle.std.proofs.lemmas.List.Sums.{sum_by-le, count_by-le-length}
use Rattle.dt_bits.specs.Bits.{IsWidth}
use Rattle.dt_model.specs.declared.model.Named.{Named}
use Rattle.dt_model.specs.declared.model.Node.{Node}
use Rattle.dt_model.specs.ModelData.{ModelData, NodeData, act_of, node_of}
use Rattle.dt_model.specs.Widths.{AreWidths}
use Rattle.dt_model.specs.Faults.{IsAccepted, is_read}
use Rattle.dt_model.proofs.Accepting.{few_regs, few_inputs, few_nodes, reg_widths, input_widths, accepted_word}
use Rattle.dt_request.specs.Choices.{read_nodes, widths_of}

widths_few : (names : List Named) (most : ℕ) → AreWidths names → length names ≤ most → widths_of names ≤ most * 128
widths_few names most are few =
    let each : widths_of names ≤ length names * 128 = sum_by-le (λ (n : Named). n.width) 128 names (λ k d l. (All-from_recursion (λ (n : Named). IsWidth n.width) names are k d l).1) in
    omega (arith, each)

pub reg_bits_few : (d : ModelData) → IsAccepted d → widths_of d.regs ≤ 4096
reg_bits_few d a = widths_few d.regs 32 (reg_widths d a) (few_regs d a)

pub input_bits_few : (d : ModelData) → IsAccepted d → widths_of d.inputs ≤ 2048
input_bits_few d a = widths_few d.inputs 16 (input_widths d a) (few_inputs d a)

-- read nodes, seen by what they do
pub reads_seen : (nodes : List Node) → count_by (λ (n : NodeData). is_read n.step) (map node_of nodes) ≡ count_by (λ (n : Node). is_read (act_of n.act)) nodes
reads_seen nodes = fold-map (λ (a : ℕ) (s : NodeData). a + (if is_read s.step then 1 else 0)) node_of 0 nodes

pub reads_few : (d : ModelData) → IsAccepted d → read_nodes d ≤ 1024
reads_few d a = omega (arith, count_by-le-length (λ (n : NodeData). is_read n.step) d.nodes, few_nodes d a)

pub word_few : (d : ModelData) → IsAccepted d → d.word ≤ 64
word_few d a =
    ⊎_elim (λ (h : d.word ≡ 8). omega arith)
    (λ r. ⊎_elim (λ (h : d.word ≡ 16). omega arith) (λ s. ⊎_elim (λ (h : d.word ≡ 32). omega arith) (λ (h : d.word ≡ 64). omega arith) s) r)
    (accepted_word d a)
