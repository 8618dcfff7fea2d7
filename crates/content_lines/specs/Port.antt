-- What contracts see of a `Port`.
use Rattle.std.specs.Prelude.{Bool}
use Rattle.content_lines.specs.declared.port.Port.{Port}

-- the reader or the writer inside
abbrev pub inner_of : {T : Type 0} → Port T → T
inner_of p = p.inner

-- whether it has failed
abbrev pub is_failed : {T : Type 0} → Port T → Bool
is_failed p = p.failed
