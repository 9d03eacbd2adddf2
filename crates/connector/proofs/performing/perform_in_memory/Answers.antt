use Rattle.connector.proofs.Performed.{performs, replies}
use Rattle.connector.proofs.performing.perform_in_memory.Goals as goal

pub returns-in-OpenSession : goal.returns-in-OpenSession
returns-in-OpenSession g c = performs c.args.parts.now c.open.new.parts c.args.command.now _ c.open.result c.in-OpenSession.is c.open.ensures

pub returns-in-Close : goal.returns-in-Close
returns-in-Close g c = performs c.args.parts.now c.close.new.parts c.args.command.now _ c.close.result c.in-Close.is c.close.ensures

pub returns-in-Begin : goal.returns-in-Begin
returns-in-Begin g c = performs c.args.parts.now c.begin.new.parts c.args.command.now _ c.begin.result c.in-Begin.is c.begin.ensures

pub returns-in-Start : goal.returns-in-Start
returns-in-Start g c = performs c.args.parts.now c.start.new.parts c.args.command.now _ c.start.result c.in-Start.is c.start.ensures

pub returns-in-Suspend : goal.returns-in-Suspend
returns-in-Suspend g c = replies c.args.parts.now c.suspend.new.parts c.args.command.now _ c.suspend.result c.in-Suspend.is c.suspend.ensures

pub returns-in-End : goal.returns-in-End
returns-in-End g c = replies c.args.parts.now c.end.new.parts c.args.command.now _ c.end.result c.in-End.is c.end.ensures

pub returns-in-Rollback : goal.returns-in-Rollback
returns-in-Rollback g c = replies c.args.parts.now c.rollback.new.parts c.args.command.now _ c.rollback.result c.in-Rollback.is c.rollback.ensures

pub returns-in-Create : goal.returns-in-Create
returns-in-Create g c = performs c.args.parts.now c.create.new.parts c.args.command.now _ c.create.result c.in-Create.is c.create.ensures

pub returns-in-Make : goal.returns-in-Make
returns-in-Make g c = performs c.args.parts.now c.make.new.parts c.args.command.now _ c.make.result c.in-Make.is c.make.ensures

pub returns-in-Find : goal.returns-in-Find
returns-in-Find g c = performs c.args.parts.now c.find.new.parts c.args.command.now _ c.find.result c.in-Find.is c.find.ensures

pub returns-in-FindRef : goal.returns-in-FindRef
returns-in-FindRef g c = performs c.args.parts.now c.findref.new.parts c.args.command.now _ c.findref.result c.in-FindRef.is c.findref.ensures

pub returns-in-Pid : goal.returns-in-Pid
returns-in-Pid g c = performs c.args.parts.now c.pid.new.parts c.args.command.now _ c.pid.result c.in-Pid.is c.pid.ensures

pub returns-in-Short : goal.returns-in-Short
returns-in-Short g c = performs c.args.parts.now c.short.new.parts c.args.command.now _ c.short.result c.in-Short.is c.short.ensures

pub returns-in-Exists : goal.returns-in-Exists
returns-in-Exists g c = performs c.args.parts.now c.exists.new.parts c.args.command.now _ c.exists.result c.in-Exists.is c.exists.ensures

pub returns-in-Get : goal.returns-in-Get
returns-in-Get g c = performs c.args.parts.now c.get.new.parts c.args.command.now _ c.get.result c.in-Get.is c.get.ensures

pub returns-in-Set : goal.returns-in-Set
returns-in-Set g c = performs c.args.parts.now c.set.new.parts c.args.command.now _ c.set.result c.in-Set.is c.set.ensures

pub returns-in-Destroy : goal.returns-in-Destroy
returns-in-Destroy g c = performs c.args.parts.now c.destroy.new.parts c.args.command.now _ c.destroy.result c.in-Destroy.is c.destroy.ensures

pub returns-in-Follow : goal.returns-in-Follow
returns-in-Follow g c = performs c.args.parts.now c.follow.new.parts c.args.command.now _ c.follow.result c.in-Follow.is c.follow.ensures

pub returns-in-Count : goal.returns-in-Count
returns-in-Count g c = performs c.args.parts.now c.count.new.parts c.args.command.now _ c.count.result c.in-Count.is c.count.ensures

pub returns-in-List : goal.returns-in-List
returns-in-List g c = performs c.args.parts.now c.list.new.parts c.args.command.now _ c.list.result c.in-List.is c.list.ensures

pub returns-in-Dup : goal.returns-in-Dup
returns-in-Dup g c = replies c.args.parts.now c.dup.new.parts c.args.command.now _ c.dup.result c.in-Dup.is c.dup.ensures

pub returns-in-Release : goal.returns-in-Release
returns-in-Release g c = replies c.args.parts.now c.release.new.parts c.args.command.now _ c.release.result c.in-Release.is c.release.ensures

pub returns-in-FreeAll : goal.returns-in-FreeAll
returns-in-FreeAll g c = replies c.args.parts.now c.free_all.new.parts c.args.command.now _ c.free_all.result c.in-FreeAll.is c.free_all.ensures

pub returns-in-Refresh : goal.returns-in-Refresh
returns-in-Refresh g c = replies c.args.parts.now c.refresh.new.parts c.args.command.now _ c.refresh.result c.in-Refresh.is c.refresh.ensures
