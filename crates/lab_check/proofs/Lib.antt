mod ReportLaws
