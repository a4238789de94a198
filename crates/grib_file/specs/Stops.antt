-- Octets that are not read, as why no file is read.
use Rattle.grib_io.specs.declared.reading.ReadStop.{ReadStop}
use Rattle.grib_io.specs.declared.reading.ReadStop.TheVariants as reads
use Rattle.grib_stream.specs.declared.outcome.FileRefusal.TheVariants as refusals
use Rattle.grib_file.specs.declared.stop.FileStop.{FileStop}
use Rattle.grib_file.specs.declared.stop.FileStop.TheVariants.{Refused, ShelfFault, Memory}

abbrev pub stop_of_read : ReadStop → FileStop
stop_of_read reads.Absent = Refused refusals.Absent
stop_of_read reads.Failed = ShelfFault
stop_of_read reads.Memory = Memory
