use Rattle.std.proofs.Common.{◌+◌, ◌*◌}
use Rattle.check_rows.proofs.tree.+tree.Given as goal

abbrev pub decreases-read_value : goal.decreases-read_value
decreases-read_value l = 6 * l.depth

abbrev pub decreases-read_worded : goal.decreases-read_worded
decreases-read_worded l = 6 * l.depth + 5

abbrev pub decreases-read_struct : goal.decreases-read_struct
decreases-read_struct l = 6 * l.depth + 4

abbrev pub decreases-read_enum : goal.decreases-read_enum
decreases-read_enum l = 6 * l.depth + 4

abbrev pub decreases-read_data : goal.decreases-read_data
decreases-read_data l = 6 * l.depth + 3

abbrev pub decreases-read_list : goal.decreases-read_list
decreases-read_list l = 6 * l.depth + 2

abbrev pub decreases-read_held : goal.decreases-read_held
decreases-read_held l = 6 * l.depth + 1

abbrev pub decreases-read_items : goal.decreases-read_items
decreases-read_items l = 6 * l.depth + 1

abbrev pub decreases-read_pairs : goal.decreases-read_pairs
decreases-read_pairs l = 6 * l.depth + 1

abbrev pub decreases-read_fields : goal.decreases-read_fields
decreases-read_fields l = 6 * l.depth + 1
