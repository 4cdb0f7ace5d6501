-- The refusals by their names, each with its number, and the number that a look at faults comes to.
use Rattle.std.specs.Prelude.{ℕ, Bool, cond, Result, Ok, Err}
use Rattle.basis.specs.declared.refuse.Refusal.{Refusal}
use Rattle.basis.specs.declared.refuse.Refusal.TheVariants.{Mark, Version, Size, Length, Outline, Code, UnknownSetting, SettingsFull, Tolerance, Number, Range, Loops, Index, Backward, Count, Starts, Edition, Room, Party, Full, Handle}

-- document 01's "Refusal numbers", and those of document 02
abbrev pub number_of : Refusal → ℕ
number_of Mark = 11
number_of Version = 12
number_of Size = 13
number_of Length = 1
number_of Outline = 2
number_of Code = 3
number_of UnknownSetting = 16
number_of SettingsFull = 17
number_of Tolerance = 4
number_of Number = 5
number_of Range = 18
number_of Loops = 19
number_of Index = 6
number_of Backward = 15
number_of Count = 7
number_of Starts = 8
number_of Edition = 14
number_of Room = 9
number_of Party = 22
number_of Full = 20
number_of Handle = 21

-- a row of an entry's table, as the code looks at it
abbrev pub when : Bool → Refusal → Result Unit Refusal
when fault r = cond fault (Err r) (Ok tt)

-- what a look at faults found: 0 where there is none
abbrev pub found : {A : Type 0} → Result A Refusal → ℕ
found (Ok _) = 0
found (Err r) = number_of r
