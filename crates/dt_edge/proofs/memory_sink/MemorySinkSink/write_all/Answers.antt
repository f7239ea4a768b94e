use Rattle.std.proofs.Common.{Some, take, drop, ap, sym}
use Rattle.std.proofs.lemmas.List.{take-append-drop}
use Rattle.dt_edge.proofs.memory_sink.MemorySinkSink.write_all.Goals as goal

pub returns-then-is_refused-clause-part : goal.returns-then-is_refused-clause-part
returns-then-is_refused-clause-part c =
    let count = c.min-kept.result in
    (take count c.args.bytes.now, drop count c.args.bytes.now, sym (take-append-drop count c.args.bytes.now), ap Some c.append.ensures.bytes)
