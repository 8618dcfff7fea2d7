-- The scripts of durations are lawful.
use Rattle.std.specs.Prelude.{refl}
use Rattle.content_ser.specs.Scripts.Durations.{duration_script}
use Rattle.content_ser.specs.Laws.StandardScripts.{AllLawful, leaf_lawful}
use Rattle.content_ser.specs.Laws.OwnScripts.{field_fits, struct_end_fits, struct_lawful}

-- a duration
pub duration_lawful : AllLawful duration_script
duration_lawful d h = struct_lawful (field_fits (leaf_lawful refl) (field_fits (leaf_lawful refl) struct_end_fits))
