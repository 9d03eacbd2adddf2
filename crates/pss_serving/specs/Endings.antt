-- How a call ends where serving its script does.
use Rattle.line_service.specs.declared.serving.Ending.{Ending}
use Rattle.line_service.specs.declared.serving.Ending.TheVariants as ending
use Rattle.pss_serving.specs.declared.status.Status.{Status}
use Rattle.pss_serving.specs.declared.status.Status.TheVariants as status

abbrev pub status_of_ending : Ending → Status
status_of_ending ending.End = status.Ok
status_of_ending ending.TooLong = status.ScriptTooLong
status_of_ending ending.ReadFault = status.ReadFault
status_of_ending ending.DiskFault = status.DiskFault
status_of_ending ending.SpeakFault = status.SpeakFault
status_of_ending ending.NoMemory = status.NoMemory
