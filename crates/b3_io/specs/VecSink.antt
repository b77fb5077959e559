-- What a sink in memory shows.
use Rattle.std.specs.Prelude.{ℕ, List}
use Rattle.b3_io.specs.declared.vec_sink.VecSink.{VecSink}

-- the bytes that it holds, in order
abbrev pub held_bytes : VecSink → List ℕ
held_bytes s = s.bytes.items

-- how many bytes it has room for in all
abbrev pub room_of : VecSink → ℕ
room_of s = s.room

-- how many of its writes have failed
abbrev pub fault_count : VecSink → ℕ
fault_count s = s.faults.count
