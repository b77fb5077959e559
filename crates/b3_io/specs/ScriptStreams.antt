-- What a source and a sink that follow a script show.
use Rattle.std.specs.Prelude.{ℕ, List, drop}
use Rattle.b3_io.specs.declared.script_source.ScriptSource.{ScriptSource}
use Rattle.b3_io.specs.declared.script_sink.ScriptSink.{ScriptSink}

-- the bytes still to come, the calls that fail, the most bytes that one moves, and the calls so far
abbrev pub left_of : ScriptSource → List ℕ
left_of s = drop s.at s.bytes

abbrev pub fails_of : ScriptSource → List ℕ
fails_of s = s.script.fails

abbrev pub most_of : ScriptSource → ℕ
most_of s = s.script.most

abbrev pub calls_of : ScriptSource → ℕ
calls_of s = s.script.calls

-- the bytes that a sink holds and has room for in all, and the same of it
abbrev pub held_of : ScriptSink → List ℕ
held_of s = s.bytes.items

abbrev pub sink_room_of : ScriptSink → ℕ
sink_room_of s = s.room

abbrev pub sink_fails_of : ScriptSink → List ℕ
sink_fails_of s = s.script.fails

abbrev pub sink_most_of : ScriptSink → ℕ
sink_most_of s = s.script.most

abbrev pub sink_calls_of : ScriptSink → ℕ
sink_calls_of s = s.script.calls

-- how many calls have failed
abbrev pub faults_of : ScriptSource → ℕ
faults_of s = s.faults.count

abbrev pub sink_faults_of : ScriptSink → ℕ
sink_faults_of s = s.faults.count
