-- What a sink in memory is: its bytes, its room, the calls that fail, its counts, and when its next call fails.
use Rattle.std.specs.Prelude.{ℕ, Bool, ◌||◌, List, nat_lt, min}
use Rattle.dt_edge.specs.Causes.{is_listed}
use Rattle.dt_edge.specs.declared.memory_sink.MemorySink.{MemorySink}

-- all bytes that were appended
abbrev pub bytes_of : MemorySink → List ℕ
bytes_of sink = sink.bytes.items

-- for how many bytes more there is room
abbrev pub room_of : MemorySink → ℕ
room_of sink = sink.room

-- how many bytes a failing call appends at most
abbrev pub keep_of : MemorySink → ℕ
keep_of sink = sink.keep

-- the positions of the calls that fail
abbrev pub failing_of : MemorySink → List ℕ
failing_of sink = sink.failing.items

-- how many calls there were
abbrev pub calls_of : MemorySink → ℕ
calls_of sink = sink.calls

-- how many of them failed
abbrev pub faults_of : MemorySink → ℕ
faults_of sink = sink.faults

-- whether the next call, with so many bytes, is listed or has more than there is room for
abbrev pub is_refused : MemorySink → ℕ → Bool
is_refused sink len = is_listed (failing_of sink) (calls_of sink) || nat_lt (room_of sink) len

-- how many of so many bytes a failing call appends
abbrev pub kept_by : MemorySink → ℕ → ℕ
kept_by sink len = min (keep_of sink) (min (room_of sink) len)
