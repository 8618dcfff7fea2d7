-- The script of a duration: that of a struct of its seconds and of the nanoseconds beyond them.
use Rattle.std.specs.Prelude.{◌/◌, ◌%◌, codes}
use Rattle.std.specs.Duration.{as_nanos}
use Rattle.std.specs.declared.time.Duration.{Duration}
use Rattle.content_tree.specs.declared.number.Number.TheVariants as num
use Rattle.content_ser.specs.Calls.Event.{number}
use Rattle.content_ser.specs.Scripts.Standard.{ScriptOf, only}
use Rattle.content_ser.specs.Scripts.Own.{end_script, field_first, struct_script}

-- a duration
abbrev pub duration_script : ScriptOf Duration
duration_script d = struct_script (codes "Duration") 2
    (field_first (codes "secs") (only (number (num.U64 (as_nanos d / 1_000_000_000))))
    (field_first (codes "nanos") (only (number (num.U32 (as_nanos d % 1_000_000_000)))) end_script))
