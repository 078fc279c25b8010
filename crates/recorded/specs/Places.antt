-- The places of a record's words and parts (docs/RECORDED.md), from 0 on, and of what is compared in the names of `expect`.
use Rattle.std.specs.Prelude.{ℕ}
use Rattle.recorded.specs.declared.Field.{Field}
use Rattle.recorded.specs.declared.Field.TheVariants as field
use Rattle.recorded.specs.declared.Part.{Part}
use Rattle.recorded.specs.declared.Part.TheVariants as part
use Rattle.recorded.specs.declared.comparing.What.{What}
use Rattle.recorded.specs.declared.comparing.What.TheVariants as what

abbrev pub field_place : Field → ℕ
field_place field.Image = 0
field_place field.K = 1
field_place field.Out = 2
field_place field.Map = 3
field_place field.First = 4
field_place field.Second = 5
field_place field.Inputs = 6
field_place field.State = 7
field_place field.Outputs = 8
field_place field.Number = 9
field_place field.Length = 10
field_place field.Start = 11
field_place field.Result = 12
field_place field.Mapping = 13
field_place field.Output = 14
field_place field.StateAfter = 15

abbrev pub part_place : Part → ℕ
part_place part.Image = 0
part_place part.Inputs = 1
part_place part.StateBefore = 2
part_place part.Result = 3
part_place part.Mapping = 4
part_place part.Output = 5
part_place part.StateAfter = 6

abbrev pub what_place : What → ℕ
what_place what.Number = 0
what_place what.Length = 1
what_place what.Start = 2
what_place what.Result = 3
what_place what.Mapping = 4
what_place what.State = 5
what_place what.First = 6
what_place what.Second = 7
