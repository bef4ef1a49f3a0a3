-- Why a part of a text was not read.
use Rattle.desk_model.specs.declared.name.NameFault.{NameFault}
use Rattle.desk_model.specs.declared.name.NameFault.TheVariants as of_name
use Rattle.line_forms.specs.declared.lines.FormFault.{FormFault}
use Rattle.line_forms.specs.declared.lines.FormFault.TheVariants.{Bad, Memory}

-- bytes that are no name make a bad line
abbrev pub fault_of_name : NameFault → FormFault
fault_of_name of_name.BadName = Bad
fault_of_name of_name.Memory = Memory
