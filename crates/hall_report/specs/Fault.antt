-- The names of faults, which fault a report's or an import's is, and which faults there are of what is asked for.
use Rattle.std.specs.Prelude.{ℕ, ⊤, List, codes}
use Rattle.hall_report.specs.declared.{fault.{ImportFault.ImportFault, ReportFault.ReportFault}, task_fault.Fault.Fault}
use Rattle.hall_report.specs.declared.fault.ImportFault.TheVariants as import
use Rattle.hall_report.specs.declared.fault.ReportFault.TheVariants as report
use Rattle.hall_report.specs.declared.task_fault.Fault.TheVariants as fault

-- the name of a fault's variant
abbrev pub name_of : Fault → List ℕ
name_of fault.BadInput = codes "BadInput"
name_of fault.Io = codes "Io"
name_of fault.Memory = codes "Memory"
name_of fault.Bind = codes "Bind"
name_of fault.Unavailable = codes "Unavailable"
name_of fault.NotEmpty = codes "NotEmpty"
name_of fault.NotAHall = codes "NotAHall"
name_of fault.OtherVersion = codes "OtherVersion"
name_of fault.NoMachine = codes "NoMachine"
name_of fault.BadHeader = codes "BadHeader"
name_of fault.BadRow = codes "BadRow"

-- the fault of a report
abbrev pub of_report : ReportFault → Fault
of_report report.NoMachine = fault.NoMachine
of_report report.Unavailable = fault.Unavailable
of_report report.Memory = fault.Memory

-- the fault of an import, without a row's number
abbrev pub of_import : ImportFault → Fault
of_import import.BadHeader = fault.BadHeader
of_import (import.BadRow n) = fault.BadRow
of_import import.Memory = fault.Memory

-- ---- which faults there are

-- a write, the store or memory failed
abbrev pub IsStoreFault : Fault → Type 0
IsStoreFault fault.Io = ⊤
IsStoreFault fault.Unavailable = ⊤
IsStoreFault fault.Memory = ⊤
IsStoreFault other = ⊥

-- so too, or the machine that a report is about isn't there
abbrev pub IsReportFault : Fault → Type 0
IsReportFault fault.NoMachine = ⊤
IsReportFault other = IsStoreFault other

-- a write, the store or memory failed, or a file is malformed
abbrev pub IsImportFault : Fault → Type 0
IsImportFault fault.BadHeader = ⊤
IsImportFault fault.BadRow = ⊤
IsImportFault other = IsStoreFault other

-- a read or a write failed, memory did, or an input is malformed
abbrev pub IsFrameFault : Fault → Type 0
IsFrameFault fault.BadInput = ⊤
IsFrameFault fault.Io = ⊤
IsFrameFault fault.Memory = ⊤
IsFrameFault other = ⊥
